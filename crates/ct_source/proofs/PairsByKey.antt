-- Pairs whose keys are those of their rows: look-ups and changes of the pairs are those of the rows.
use Rattle.std.proofs.Common.{◌≡◌, Bool, true, false, cond, List, [], ◌∷◌, ◌++◌, filter, find, Option, Some, None, is_some, option_map, ◌||◌, refl, sym, ap₂, ◌∙◌, subst, append_assoc}
use Rattle.std.specs.Prelude.{Result, Ok, Err, OnOk, OnErr}
use Rattle.std.specs.List.{AllByRecursion, list_any}
use Rattle.std.specs.Option.{option_copied}
use denote.Ref.{Bor}
use Rattle.std.specs.declared.cmp.Ordering.{Ordering}
use Rattle.std.specs.declared.cmp.Ordering.TheVariants.{Less}
use Rattle.std.specs.Ordering.{is_lt, is_eq, is_gt}
use Rattle.std.proofs.lemmas.List.{map-append}
use Rattle.ct_types.specs.Order.{key_cmp}
use Rattle.ct_types.specs.declared.value.Key.{Key}
use Rattle.ct_types.specs.declared.value.Row.{Row}
use Rattle.ct_types.specs.declared.schema.Schema.{Schema}
use Rattle.ct_types.proofs.Lists.{all_append}
use Rattle.ct_ptree.specs.declared.pair.Pair.{Pair}
use Rattle.ct_ptree.specs.Pairs.{Ascends, is_below, is_above, is_at, value_at, with_pair, set_pair, without}
use Rattle.ct_model.specs.Tables.{key_of, row_at, rows_with}
use Rattle.ct_model.specs.Valid.{AreRising}
use Rattle.ct_model.proofs.Members.{all_filter}
use Rattle.ct_source.specs.Rows.{rows_of, AreKeyed, IsWhole}

-- what holds after a change that is made, or is not for want of memory
pub after_change : {A U E : Type 0} (P : A → Type 0) (r : Result U E) (old made new : A) → P old → P made → OnOk r (new ≡ made) → OnErr r (new ≡ old) → P new
after_change P (Ok u) old made new before after ok err = subst P (sym ok) after
after_change P (Err e) old made new before after ok err = subst P (sym err) before

pub some_of_copied : {X : Type 0} (o : Option (Bor X)) → is_some o ≡ is_some (option_copied o)
some_of_copied None = refl
some_of_copied (Some x) = refl

pub found_is_any : {X : Type 0} (test : X → Bool) (xs : List X) → is_some (find test xs) ≡ list_any test xs
found_is_any test [] = refl
found_is_any test (x ∷ xs) =
    let step : (b : Bool) → is_some (cond b (Some x) (find test xs)) ≡ (b || list_any test xs) =
    elim [ true ↦ refl | false ↦ found_is_any test xs ] in
    step (test x)

-- ---- pairs that are left

row_left : (b : Bool) (pair : Pair Row) (rest : List (Pair Row)) → rows_of (cond b (pair ∷ rest) rest) ≡ cond b (pair.value ∷ rows_of rest) (rows_of rest)
row_left true pair rest = refl
row_left false pair rest = refl

row_found : (b : Bool) (pair : Pair Row) (o : Option (Pair Row))
    → option_map (λ (p : Pair Row). p.value) (cond b (Some pair) o) ≡ cond b (Some pair.value) (option_map (λ (p : Pair Row). p.value) o)
row_found true pair o = refl
row_found false pair o = refl

module _ (schema : Schema) where
  abbrev HaveKeys : List (Pair Row) → Type 0
  HaveKeys = AllByRecursion (λ (pair : Pair Row). pair.key ≡ key_of schema pair.value)

  rows_left : (test : Ordering → Bool) (key : Key) (pairs : List (Pair Row)) → HaveKeys pairs
      → rows_of (filter (λ pair. test (key_cmp pair.key key)) pairs) ≡ filter (λ old. test (key_cmp (key_of schema old) key)) (rows_of pairs)
  rows_left test key [] keys = refl
  rows_left test key (pair ∷ pairs) keys =
      row_left (test (key_cmp pair.key key)) pair (filter (λ pair. test (key_cmp pair.key key)) pairs)
      ∙ ap₂ (λ (k : Key) (rest : List Row). cond (test (key_cmp k key)) (pair.value ∷ rest) rest) keys.0 (rows_left test key pairs keys.1)

  pub row_of_key : (key : Key) (pairs : List (Pair Row)) → HaveKeys pairs → value_at pairs key ≡ row_at schema (rows_of pairs) key
  row_of_key key [] keys = refl
  row_of_key key (pair ∷ pairs) keys =
      row_found (is_eq (key_cmp pair.key key)) pair (find (is_at key) pairs)
      ∙ ap₂ (λ (k : Key) (o : Option Row). cond (is_eq (key_cmp k key)) (Some pair.value) o) keys.0 (row_of_key key pairs keys.1)

  pub rows_put : (key : Key) (row : Row) (pairs : List (Pair Row)) → HaveKeys pairs
      → rows_of (set_pair pairs key row) ≡ rows_with schema (rows_of pairs) key (Some row)
  rows_put key row pairs keys =
      map-append (λ (p : Pair Row). p.value) (filter (is_below key) pairs) (record { key = key; value = row } ∷ filter (is_above key) pairs)
      ∙ ap₂ (λ (a b : List Row). a ++ row ∷ b) (rows_left is_lt key pairs keys) (rows_left is_gt key pairs keys)
      ∙ sym (append_assoc (filter (λ old. is_lt (key_cmp (key_of schema old) key)) (rows_of pairs)) (row ∷ []) (filter (λ old. is_gt (key_cmp (key_of schema old) key)) (rows_of pairs)))

  pub rows_taken : (key : Key) (pairs : List (Pair Row)) → HaveKeys pairs → rows_of (without pairs key) ≡ rows_with schema (rows_of pairs) key None
  rows_taken key pairs keys =
      map-append (λ (p : Pair Row). p.value) (filter (is_below key) pairs) (filter (is_above key) pairs)
      ∙ ap₂ (λ (a b : List Row). a ++ b) (rows_left is_lt key pairs keys) (rows_left is_gt key pairs keys)
      ∙ sym (append_assoc (filter (λ old. is_lt (key_cmp (key_of schema old) key)) (rows_of pairs)) [] (filter (λ old. is_gt (key_cmp (key_of schema old) key)) (rows_of pairs)))

  -- ---- what holds of the pairs goes on to hold

  all_left : (P : Pair Row → Type 0) (test : Pair Row → Bool) (pairs : List (Pair Row)) → AllByRecursion P pairs → AllByRecursion P (filter test pairs)
  all_left P test pairs all = all_filter P P test (λ pair passes p. p) pairs all

  all_put : (P : Pair Row → Type 0) (pairs : List (Pair Row)) (pair : Pair Row) → AllByRecursion P pairs → P pair → AllByRecursion P (with_pair pairs pair)
  all_put P pairs pair all here =
      all_append P (filter (is_below pair.key) pairs) (pair ∷ filter (is_above pair.key) pairs) (all_left P (is_below pair.key) pairs all)
      (here, all_left P (is_above pair.key) pairs all)

  all_taken : (P : Pair Row → Type 0) (pairs : List (Pair Row)) (key : Key) → AllByRecursion P pairs → AllByRecursion P (without pairs key)
  all_taken P pairs key all =
      all_append P (filter (is_below key) pairs) (filter (is_above key) pairs) (all_left P (is_below key) pairs all) (all_left P (is_above key) pairs all)

  pub keyed_put : (pairs : List (Pair Row)) (key : Key) (row : Row) → AreKeyed schema pairs → key_of schema row ≡ key → IsWhole schema row
      → AreKeyed schema (set_pair pairs key row)
  keyed_put pairs key row keyed at whole =
      let pair : Pair Row = record { key = key; value = row } in
      record {
        columns = keyed.columns;
        whole = all_put (λ (pair : Pair Row). IsWhole schema pair.value) pairs pair keyed.whole whole;
        keys = all_put (λ (pair : Pair Row). pair.key ≡ key_of schema pair.value) pairs pair keyed.keys (sym at);
      }

  pub keyed_taken : (pairs : List (Pair Row)) (key : Key) → AreKeyed schema pairs → AreKeyed schema (without pairs key)
  keyed_taken pairs key keyed = record {
    columns = keyed.columns;
    whole = all_taken (λ (pair : Pair Row). IsWhole schema pair.value) pairs key keyed.whole;
    keys = all_taken (λ (pair : Pair Row). pair.key ≡ key_of schema pair.value) pairs key keyed.keys;
  }

  -- ---- in order

  rises_to : (key : Key) (row : Row) (pairs : List (Pair Row)) → key ≡ key_of schema row → HaveKeys pairs → AllByRecursion (λ (pair : Pair Row). key_cmp key pair.key ≡ Less) pairs
      → AllByRecursion (λ later. key_cmp (key_of schema row) (key_of schema later) ≡ Less) (rows_of pairs)
  rises_to key row [] e keys all = tt
  rises_to key row (pair ∷ pairs) e keys all = (
    sym (ap₂ (λ (a b : Key). key_cmp a b) e keys.0) ∙ all.0,
    rises_to key row pairs e keys.1 all.1,
  )

  pub rows_rise : (pairs : List (Pair Row)) → HaveKeys pairs → Ascends pairs → AreRising schema (rows_of pairs)
  rows_rise [] keys rising = tt
  rows_rise (pair ∷ pairs) keys rising = (rises_to pair.key pair.value pairs keys.0 keys.1 rising.0, rows_rise pairs keys.1 rising.1)
