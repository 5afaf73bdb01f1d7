-- The keys of rows in rising order, where the row of one is replaced or removed.
use Rattle.std.proofs.Common.{◌≡◌, ◌≢◌, Bool, true, false, cond, ◌||◌, List, [], ◌∷◌, ◌++◌, map, filter, fold, Option, Some, None, refl, sym, ap, ◌∙◌, subst, append_assoc}
use Rattle.std.specs.List.{AllByRecursion, list_any}
use Rattle.std.specs.declared.cmp.Ordering.{Ordering}
use Rattle.std.specs.declared.cmp.Ordering.TheVariants.{Less, Equal, Greater}
use Rattle.std.specs.Ordering.{is_lt, is_eq, is_gt, ordering_reverse}
use Rattle.std.proofs.lemmas.Cmp.{tied_itself}
use Rattle.ct_types.proofs.Orders.{key_cmp_total, key_cmp_exact}
use Rattle.ct_types.specs.Order.{key_cmp}
use Rattle.ct_types.specs.declared.entry.Write.{Write}
use Rattle.ct_types.specs.declared.schema.Schema.{Schema}
use Rattle.ct_types.specs.declared.value.Key.{Key}
use Rattle.ct_types.specs.declared.value.Row.{Row}
use Rattle.ct_model.specs.Tables.{key_of, has_row, rows_with}
use Rattle.ct_model.specs.Valid.{AreRising}
use Rattle.ct_model.proofs.Members.{all_weaken}
use Rattle.ct_model.proofs.Rising.{IsAt, turned, rows_rise}

-- the rows with what these writes put at their keys
abbrev pub rows_put : Schema → List Row → List Write → List Row
rows_put schema rows writes = fold (λ before write. rows_with schema before write.key write.row) rows writes

abbrev is_low : Schema → Key → Row → Bool
is_low schema key row = is_lt (key_cmp (key_of schema row) key)

abbrev is_high : Schema → Key → Row → Bool
is_high schema key row = is_gt (key_cmp (key_of schema row) key)

abbrev AreAbove : Schema → Key → List Row → Type 0
AreAbove schema key rows = AllByRecursion (λ row. key_cmp key (key_of schema row) ≡ Less) rows

pub less_differs : (a b : Key) → key_cmp a b ≡ Less → a ≢ b
less_differs a b less same =
    let clash : Less ≡ Equal = sym less ∙ (ap (λ (k : Key). key_cmp a k) (sym same) ∙ tied_itself key_cmp_total a) in
    cc

over : (a b : Key) → key_cmp a b ≡ Less → key_cmp b a ≡ Greater
over a b less = key_cmp_total.antisymm b a ∙ ap ordering_reverse less

none_low : (schema : Schema) (key : Key) (rows : List Row) → AreAbove schema key rows → filter (is_low schema key) rows ≡ []
none_low schema key [] above = refl
none_low schema key (row ∷ rows) above =
    ap (λ (o : Ordering). cond (is_lt o) (row ∷ filter (is_low schema key) rows) (filter (is_low schema key) rows)) (over key (key_of schema row) above.0) ∙ none_low schema key rows above.1

all_high : (schema : Schema) (key : Key) (rows : List Row) → AreAbove schema key rows → filter (is_high schema key) rows ≡ rows
all_high schema key [] above = refl
all_high schema key (row ∷ rows) above =
    ap (λ (o : Ordering). cond (is_gt o) (row ∷ filter (is_high schema key) rows) (filter (is_high schema key) rows)) (over key (key_of schema row) above.0)
    ∙ ap (λ (rest : List Row). row ∷ rest) (all_high schema key rows above.1)

absent_above : (schema : Schema) (key : Key) (rows : List Row) → AreAbove schema key rows → has_row schema rows key ≡ false
absent_above schema key [] above = refl
absent_above schema key (row ∷ rows) above =
    ap (λ (o : Ordering). is_eq o || has_row schema rows key) (over key (key_of schema row) above.0) ∙ absent_above schema key rows above.1

above_all : (schema : Schema) (key first : Key) (rows : List Row) → key_cmp key first ≡ Less → AreAbove schema first rows → AreAbove schema key rows
above_all schema key first rows less above = all_weaken _ _ (λ row more. key_cmp_total.trans key first (key_of schema row) less more) rows above

-- ---- each key of the rows is there

or_true : (a b : Bool) → b ≡ true → (a || b) ≡ true
or_true true b e = refl
or_true false b e = e

pub all_present : (schema : Schema) (rows : List Row) → AllByRecursion (λ row. has_row schema rows (key_of schema row) ≡ true) rows
all_present schema [] = tt
all_present schema (row ∷ rows) = (
  ap (λ (o : Ordering). is_eq o || has_row schema rows (key_of schema row)) (tied_itself key_cmp_total (key_of schema row)),
  all_weaken _ _ (λ other here. or_true (is_eq (key_cmp (key_of schema row) (key_of schema other))) (has_row schema rows (key_of schema other)) here) rows (all_present schema rows),
)

-- ---- a row is replaced by one of its key

abbrev keys : Schema → List Row → List Key
keys schema rows = map (key_of schema) rows

split_here : (schema : Schema) (row : Row) (rows : List Row) (key : Key) → AreAbove schema (key_of schema row) rows → key_of schema row ≡ key
    → keys schema (filter (is_low schema key) rows) ++ key ∷ keys schema (filter (is_high schema key) rows) ≡ key_of schema row ∷ keys schema rows
split_here schema row rows key higher same =
    let above : AreAbove schema key rows = subst (λ (k : Key). AreAbove schema k rows) same higher in
    ap (λ (ls : List Row). keys schema ls ++ key ∷ keys schema (filter (is_high schema key) rows)) (none_low schema key rows above)
    ∙ (ap (λ (hs : List Row). key ∷ keys schema hs) (all_high schema key rows above) ∙ ap (λ (k : Key). k ∷ keys schema rows) (sym same))

keys_split : (schema : Schema) (rows : List Row) (key : Key) → AreRising schema rows → has_row schema rows key ≡ true
    → keys schema (filter (is_low schema key) rows) ++ key ∷ keys schema (filter (is_high schema key) rows) ≡ keys schema rows
keys_split schema [] key rising has = cc
keys_split schema (row ∷ rows) key rising has =
    let step : (o : Ordering) → o ≡ key_cmp (key_of schema row) key → (is_eq o || has_row schema rows key) ≡ true
    → keys schema (cond (is_lt o) (row ∷ filter (is_low schema key) rows) (filter (is_low schema key) rows)) ++ key ∷ keys schema (cond (is_gt o) (row ∷ filter (is_high schema key) rows) (filter (is_high schema key) rows))
    ≡ key_of schema row ∷ keys schema rows =
    elim [
      | Less ↦ (λ is there. ap (λ (ks : List Key). key_of schema row ∷ ks) (keys_split schema rows key rising.1 there))
      | Equal ↦ (λ is there. split_here schema row rows key rising.0 (key_cmp_exact (key_of schema row) key (sym is)))
      | Greater ↦
          (λ is there. let above : AreAbove schema key rows = above_all schema key (key_of schema row) rows (turned (key_of schema row) key (sym is)) rising.0 in
          let clash : false ≡ true = sym (absent_above schema key rows above) ∙ there in
          cc)
    ] in
    step (key_cmp (key_of schema row) key) refl has

keys_append : (schema : Schema) (xs ys : List Row) → keys schema (xs ++ ys) ≡ keys schema xs ++ keys schema ys
keys_append schema [] ys = refl
keys_append schema (x ∷ xs) ys = ap (λ (ks : List Key). key_of schema x ∷ ks) (keys_append schema xs ys)

keys_with : (schema : Schema) (rows : List Row) (key : Key) (row : Row) → key_of schema row ≡ key
    → keys schema (rows_with schema rows key (Some row)) ≡ keys schema (filter (is_low schema key) rows) ++ key ∷ keys schema (filter (is_high schema key) rows)
keys_with schema rows key row at =
    let lows = filter (is_low schema key) rows in
    let highs = filter (is_high schema key) rows in
    keys_append schema (lows ++ row ∷ []) highs
    ∙ (ap (λ (ks : List Key). ks ++ keys schema highs) (keys_append schema lows (row ∷ []))
    ∙ (append_assoc (keys schema lows) (key_of schema row ∷ []) (keys schema highs)
    ∙ ap (λ (k : Key). keys schema lows ++ k ∷ keys schema highs) at))

keys_stay : (schema : Schema) (rows : List Row) (key : Key) (row : Row) → AreRising schema rows → has_row schema rows key ≡ true → key_of schema row ≡ key
    → keys schema (rows_with schema rows key (Some row)) ≡ keys schema rows
keys_stay schema rows key row rising has at = keys_with schema rows key row at ∙ keys_split schema rows key rising has

-- whether a key is there is a matter of the keys
has_key : (schema : Schema) (rows : List Row) (key : Key) → has_row schema rows key ≡ list_any (λ k. is_eq (key_cmp k key)) (keys schema rows)
has_key schema [] key = refl
has_key schema (row ∷ rows) key = ap (λ (b : Bool). is_eq (key_cmp (key_of schema row) key) || b) (has_key schema rows key)

same_presence : (schema : Schema) (xs ys : List Row) (key : Key) → keys schema xs ≡ keys schema ys → has_row schema ys key ≡ true → has_row schema xs key ≡ true
same_presence schema xs ys key same has =
    has_key schema xs key ∙ (ap (λ (ks : List Key). list_any (λ k. is_eq (key_cmp k key)) ks) same ∙ (sym (has_key schema ys key) ∙ has))

-- a write that puts a row at its key, where a row is
pub record Replaces (schema : Schema) (rows : List Row) (write : Write) : Type 0 where
  pub row : Row
  pub is : write.row ≡ Some row
  pub at : key_of schema row ≡ write.key
  pub there : has_row schema rows write.key ≡ true

pub keys_kept : (schema : Schema) (rows : List Row) (writes : List Write) → AreRising schema rows → AllByRecursion (Replaces schema rows) writes
    → keys schema (rows_put schema rows writes) ≡ keys schema rows
keys_kept schema rows [] rising all = refl
keys_kept schema rows (write ∷ writes) rising all =
    let first = all.0 in
    let next : List Row = rows_with schema rows write.key write.row in
    let stays : keys schema next ≡ keys schema rows =
    ap (λ (o : Option Row). keys schema (rows_with schema rows write.key o)) first.is ∙ keys_stay schema rows write.key first.row rising first.there first.at in
    let rises : AreRising schema next =
    rows_rise schema rows write.key write.row rising (subst (λ (o : Option Row). IsAt schema write.key o) (sym first.is) (first.at, tt)) in
    let later : AllByRecursion (Replaces schema next) writes =
    all_weaken (Replaces schema rows) (Replaces schema next)
    (λ x r. record { row = r.row; is = r.is; at = r.at; there = same_presence schema next rows x.key stays r.there }) writes all.1 in
    keys_kept schema next writes rises later ∙ stays

-- ---- all rows are removed

first_gone : (schema : Schema) (row : Row) (rows : List Row) → AreAbove schema (key_of schema row) rows
    → rows_with schema (row ∷ rows) (key_of schema row) None ≡ rows
first_gone schema row rows above =
    let key = key_of schema row in
    let tied : key_cmp key key ≡ Equal = tied_itself key_cmp_total key in
    let lows : filter (is_low schema key) (row ∷ rows) ≡ [] =
    ap (λ (o : Ordering). cond (is_lt o) (row ∷ filter (is_low schema key) rows) (filter (is_low schema key) rows)) tied ∙ none_low schema key rows above in
    let highs : filter (is_high schema key) (row ∷ rows) ≡ rows =
    ap (λ (o : Ordering). cond (is_gt o) (row ∷ filter (is_high schema key) rows) (filter (is_high schema key) rows)) tied ∙ all_high schema key rows above in
    ap (λ (ls : List Row). (ls ++ []) ++ filter (is_high schema key) (row ∷ rows)) lows ∙ highs

pub all_gone : (schema : Schema) (f : Row → Write) → ((row : Row) → (f row).key ≡ key_of schema row) → ((row : Row) → (f row).row ≡ None)
    → (rows : List Row) → AreRising schema rows → rows_put schema rows (map f rows) ≡ []
all_gone schema f key none [] rising = refl
all_gone schema f key none (row ∷ rows) rising =
    let gone : rows_with schema (row ∷ rows) (f row).key (f row).row ≡ rows =
    ap (λ (k : Key). rows_with schema (row ∷ rows) k (f row).row) (key row) ∙ (ap (λ (o : Option Row). rows_with schema (row ∷ rows) (key_of schema row) o) (none row) ∙ first_gone schema row rows rising.0) in
    ap (λ (rs : List Row). rows_put schema rs (map f rows)) gone ∙ all_gone schema f key none rows rising.1
