-- Rows that rise by a key of one column: those with a value in it are the row of that key, where there is one.
use Rattle.std.proofs.Common.{◌≡◌, ℕ, ◌+◌, ◌-◌, ◌<◌, ◌≤◌, Bool, true, false, cond, List, [], ◌∷◌, length, get_or, filter, find, Option, Some, None, option_to_list, refl, sym, ap, ◌∙◌, subst, arith}
use Rattle.std.specs.List.{AllByRecursion, filter_map, slice_get}
use Rattle.std.specs.declared.cmp.Ordering.{Ordering}
use Rattle.std.specs.declared.cmp.Ordering.TheVariants.{Less, Equal, Greater}
use Rattle.std.specs.Ordering.{is_eq, ordering_then, ordering_reverse}
use Rattle.std.proofs.lemmas.Option.{slice_get-get_or}
use Rattle.ct_types.specs.Order.{value_cmp, key_cmp}
use Rattle.ct_types.specs.declared.value.Value.{Value}
use Rattle.ct_types.specs.declared.value.Value.TheVariants.{Null}
use Rattle.ct_types.specs.declared.value.Key.{Key}
use Rattle.ct_types.specs.declared.value.Row.{Row}
use Rattle.ct_types.specs.declared.schema.Schema.{Schema}
use Rattle.ct_types.proofs.Orders.{key_cmp_total, key_cmp_exact}
use Rattle.ct_model.specs.Lists.{EachToLater}
use Rattle.ct_model.specs.Tables.{key_of, has_that_key, row_at}
use Rattle.ct_model.specs.Valid.{AreRising}
use Rattle.ct_model.proofs.Members.{all_weaken}
use Rattle.ct_model.proofs.Rising.{equal_of}
use Rattle.ct_source.specs.Cells.{or_null, cell, has_value}
use Rattle.ct_source.specs.Rows.{HasKeyColumns, IsWhole}

-- ---- lists

filter_none : {X : Type 0} (test : X → Bool) (xs : List X) → AllByRecursion (λ x. test x ≡ false) xs → filter test xs ≡ []
filter_none test [] all = refl
filter_none test (x ∷ xs) all = rw all.0 (filter_none test xs all.1)

pub filter_same : {X : Type 0} (p q : X → Bool) (xs : List X) → AllByRecursion (λ x. p x ≡ q x) xs → filter p xs ≡ filter q xs
filter_same p q [] all = refl
filter_same p q (x ∷ xs) all = rw (all.0, filter_same p q xs all.1) refl

-- where one that passes is the only one
filter_one : {X : Type 0} (test : X → Bool) (xs : List X) → EachToLater (λ a b. test a ≡ true → test b ≡ false) xs → filter test xs ≡ option_to_list (find test xs)
filter_one test [] only = refl
filter_one test (x ∷ xs) only =
    let step : (b : Bool) → b ≡ test x → cond b (x ∷ filter test xs) (filter test xs) ≡ option_to_list (cond b (Some x) (find test xs)) =
    elim [
      | true ↦ (λ e. ap (λ rest. x ∷ rest) (filter_none test xs (all_weaken (λ y. test x ≡ true → test y ≡ false) (λ y. test y ≡ false) (λ y fails. fails (sym e)) xs only.0)))
      | false ↦ (λ e. filter_one test xs only.1)
    ] in
    step (test x) refl

-- ---- the key of a row

key_cell : (found : Option Value) (value : Value) → found ≡ Some value → filter_map (λ (id : ℕ). found) (0 ∷ []) ≡ or_null found ∷ []
key_cell (Some v) value e = refl
key_cell None value e = absurd cc

key_values : (values : List Value) (at : ℕ) → at < length values → filter_map (λ id. slice_get values (id - 1)) ((at + 1) ∷ []) ≡ or_null (slice_get values at) ∷ []
key_values values at within =
    let place : at + 1 - 1 ≡ at = omega arith in
    rw place (key_cell (slice_get values at) (get_or values at Null) (slice_get-get_or values at Null within))

key_is_cell : (schema : Schema) (row : Row) (at : ℕ) → schema.key ≡ (at + 1) ∷ [] → at < length row.0 → key_of schema row ≡ record { 0 = cell at row ∷ [] }
key_is_cell schema row at only within =
    ap (λ (ids : List ℕ). record { 0 = filter_map (λ id. slice_get row.0 (id - 1)) ids }) only ∙ ap (λ (values : List Value). record { 0 = values }) (key_values row.0 at within)

then_equal : (o : Ordering) → is_eq (ordering_then o Equal) ≡ is_eq o
then_equal Less = refl
then_equal Equal = refl
then_equal Greater = refl

same_test : (schema : Schema) (row : Row) (at : ℕ) (value : Value) → schema.key ≡ (at + 1) ∷ [] → at < length row.0
    → has_value at value row ≡ has_that_key schema (record { 0 = value ∷ [] }) row
same_test schema row at value only within =
    sym (ap (λ (key : Key). is_eq (key_cmp key (record { 0 = value ∷ [] }))) (key_is_cell schema row at only within) ∙ then_equal (value_cmp (cell at row) value))

-- ---- the rows of a key

later_fails : (a b key : Key) → key_cmp a b ≡ Less → is_eq (key_cmp a key) ≡ true → is_eq (key_cmp b key) ≡ false
later_fails a b key less here =
    let same : a ≡ key = key_cmp_exact a key (equal_of (key_cmp a key) here) in
    let below : key_cmp key b ≡ Less = subst (λ (k : Key). key_cmp k b ≡ Less) same less in
    ap is_eq (key_cmp_total.antisymm b key ∙ ap ordering_reverse below)

only_one : (schema : Schema) (key : Key) (rows : List Row) → AreRising schema rows → EachToLater (λ a b. has_that_key schema key a ≡ true → has_that_key schema key b ≡ false) rows
only_one schema key [] rising = tt
only_one schema key (row ∷ rows) rising = (
  all_weaken (λ later. key_cmp (key_of schema row) (key_of schema later) ≡ Less) (λ later. has_that_key schema key row ≡ true → has_that_key schema key later ≡ false)
      (λ later less here. later_fails (key_of schema row) (key_of schema later) key less here) rows rising.0,
  only_one schema key rows rising.1,
)

pub one_has_value : (schema : Schema) (rows : List Row) (at : ℕ) (value : Value) → AreRising schema rows → AllByRecursion (IsWhole schema) rows → HasKeyColumns schema
    → schema.key ≡ (at + 1) ∷ [] → filter (has_value at value) rows ≡ option_to_list (row_at schema rows (record { 0 = value ∷ [] }))
one_has_value schema rows at value rising whole columns only =
    let key : Key = record { 0 = value ∷ [] } in
    let place : at + 1 ≤ length schema.columns = (rw only at columns).0.1 in
    filter_same (has_value at value) (has_that_key schema key) rows
    (all_weaken (IsWhole schema) (λ row. has_value at value row ≡ has_that_key schema key row) (λ row same. same_test schema row at value only (omega (arith, same, place))) rows whole)
    ∙ filter_one (has_that_key schema key) rows (only_one schema key rows rising)
