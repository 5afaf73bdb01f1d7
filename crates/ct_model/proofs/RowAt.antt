-- The row of a key stays where a row or none is put at another key.
use Rattle.std.proofs.Common.{◌≡◌, ◌≢◌, ◌++◌, ◌∷◌, [], List, Bool, true, false, cond, filter, find, Option, None, Some, option_to_list, refl, sym, ap, ◌∙◌}
use Rattle.std.specs.Option.{option_or}
use Rattle.std.specs.declared.cmp.Ordering.{Ordering}
use Rattle.std.specs.declared.cmp.Ordering.TheVariants.{Less, Equal, Greater}
use Rattle.std.specs.Ordering.{is_lt, is_eq, is_gt, ordering_reverse}
use Rattle.std.proofs.lemmas.List.Folds.{find-append}
use Rattle.ct_types.specs.Order.{key_cmp}
use Rattle.ct_types.proofs.Orders.{key_cmp_total, key_cmp_exact}
use Rattle.ct_types.specs.declared.value.Key.{Key}
use Rattle.ct_types.specs.declared.value.Row.{Row}
use Rattle.ct_types.specs.declared.schema.Schema.{Schema}
use Rattle.ct_model.specs.Tables.{key_of, has_that_key, row_at, rows_with}
use Rattle.ct_model.proofs.Rising.{IsAt, less_of, equal_of, greater_of, turned}

find_none : {X : Type 0} (p q : X → Bool) → ((x : X) → q x ≡ true → p x ≡ false) → (xs : List X) → find p (filter q xs) ≡ None
find_none p q fails [] = refl
find_none p q fails (x ∷ xs) =
    let step : (b : Bool) → b ≡ q x → find p (cond b (x ∷ filter q xs) (filter q xs)) ≡ None =
    elim [ true ↦ (λ e. rw (fails x (sym e)) (find_none p q fails xs)) | false ↦ (λ e. find_none p q fails xs) ] in
    step (q x) refl

find_kept : {X : Type 0} (p q : X → Bool) → ((x : X) → p x ≡ true → q x ≡ true) → (xs : List X) → find p (filter q xs) ≡ find p xs
find_kept p q passes [] = refl
find_kept p q passes (x ∷ xs) =
    let step : (b : Bool) → b ≡ p x → find p (filter q (x ∷ xs)) ≡ cond b (Some x) (find p xs) =
    elim [
      | true ↦ (λ e. rw (passes x (sym e), ← e) refl)
      | false ↦
          (λ e. let other : (o : Bool) → find p (cond o (x ∷ filter q xs) (filter q xs)) ≡ find p xs = elim [ true ↦ rw (← e) (find_kept p q passes xs) | false ↦ find_kept p q passes xs ] in
          other (q x))
    ] in
    step (p x) refl

-- a key below another one is not that one, nor one above it
below_fails : (a b : Key) → key_cmp a b ≡ Less → is_eq (key_cmp a b) ≡ false
below_fails a b e = ap is_eq e

above_fails : (a b : Key) → key_cmp b a ≡ Less → is_eq (key_cmp a b) ≡ false
above_fails a b e = ap is_eq (key_cmp_total.antisymm a b ∙ ap ordering_reverse e)

row_here : (schema : Schema) (key : Key) (k : Key) (row : Option Row) → IsAt schema k row → is_eq (key_cmp k key) ≡ false
    → find (has_that_key schema key) (option_to_list row) ≡ None
row_here schema key k None at other = refl
row_here schema key k (Some row) at other = rw (ap (λ x. is_eq (key_cmp x key)) at.0 ∙ other) refl

joined_none : (o p q r : Option Row) → o ≡ r → p ≡ None → q ≡ None → option_or (option_or o p) q ≡ r
joined_none None p q r e f g = cc
joined_none (Some x) p q r e f g = e

joined_last : (o p q r : Option Row) → o ≡ None → p ≡ None → q ≡ r → option_or (option_or o p) q ≡ r
joined_last None p q r e f g = rw f g
joined_last (Some x) p q r e f g = cc

row_split : (schema : Schema) (rows : List Row) (k key : Key) (row : Option Row)
    → row_at schema (rows_with schema rows k row) key
    ≡ option_or (option_or (find (has_that_key schema key) (filter (λ r. is_lt (key_cmp (key_of schema r) k)) rows)) (find (has_that_key schema key) (option_to_list row)))
    (find (has_that_key schema key) (filter (λ r. is_gt (key_cmp (key_of schema r) k)) rows))
row_split schema rows k key row =
    find-append (has_that_key schema key) (filter (λ r. is_lt (key_cmp (key_of schema r) k)) rows ++ option_to_list row) (filter (λ r. is_gt (key_cmp (key_of schema r) k)) rows)
    ∙ ap (λ o. option_or o (find (has_that_key schema key) (filter (λ r. is_gt (key_cmp (key_of schema r) k)) rows)))
    (find-append (has_that_key schema key) (filter (λ r. is_lt (key_cmp (key_of schema r) k)) rows) (option_to_list row))

-- the row of a greater key
row_above : (schema : Schema) (rows : List Row) (k key : Key) (row : Option Row) → IsAt schema k row → key_cmp k key ≡ Less
    → row_at schema (rows_with schema rows k row) key ≡ row_at schema rows key
row_above schema rows k key row at less =
    row_split schema rows k key row
    ∙ joined_last _ _ _ _
    (find_none (has_that_key schema key) (λ r. is_lt (key_cmp (key_of schema r) k)) (λ r e. below_fails (key_of schema r) key (key_cmp_total.trans (key_of schema r) k key (less_of _ e) less)) rows)
    (row_here schema key k row at (below_fails k key less))
    (find_kept (has_that_key schema key) (λ r. is_gt (key_cmp (key_of schema r) k))
    (λ r e. ap (λ x. is_gt (key_cmp x k)) (key_cmp_exact (key_of schema r) key (equal_of _ e)) ∙ ap is_gt (key_cmp_total.antisymm key k ∙ ap ordering_reverse less)) rows)

-- the row of a lesser key
row_below : (schema : Schema) (rows : List Row) (k key : Key) (row : Option Row) → IsAt schema k row → key_cmp key k ≡ Less
    → row_at schema (rows_with schema rows k row) key ≡ row_at schema rows key
row_below schema rows k key row at less =
    row_split schema rows k key row
    ∙ joined_none _ _ _ _
    (find_kept (has_that_key schema key) (λ r. is_lt (key_cmp (key_of schema r) k))
    (λ r e. ap (λ x. is_lt (key_cmp x k)) (key_cmp_exact (key_of schema r) key (equal_of _ e)) ∙ ap is_lt less) rows)
    (row_here schema key k row at (above_fails k key less))
    (find_none (has_that_key schema key) (λ r. is_gt (key_cmp (key_of schema r) k))
    (λ r e. above_fails (key_of schema r) key (key_cmp_total.trans key k (key_of schema r) less (turned (key_of schema r) k (greater_of _ e)))) rows)

-- a row is put at this key, or the row of this key stays
pub row_stays : (schema : Schema) (rows : List Row) (k key : Key) (row : Option Row) → IsAt schema k row → k ≢ key
    → row_at schema (rows_with schema rows k row) key ≡ row_at schema rows key
row_stays schema rows k key row at other =
    let step : (o : Ordering) → o ≡ key_cmp k key → row_at schema (rows_with schema rows k row) key ≡ row_at schema rows key =
    elim [
      | Less ↦ (λ e. row_above schema rows k key row at (sym e))
      | Equal ↦ (λ e. absurd (other (key_cmp_exact k key (sym e))))
      | Greater ↦ (λ e. row_below schema rows k key row at (turned k key (sym e)))
    ] in
    step (key_cmp k key) refl
