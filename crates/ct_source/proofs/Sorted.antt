-- Rows that a stable sort by a column made: those with a value stand side by side, as they stood before.
use Rattle.std.proofs.Common.{◌≡◌, ℕ, zero, suc, ◌<◌, ◌≤◌, nat_lt, Bool, true, false, not, ◌&&◌, cond, List, [], ◌∷◌, length, get_or, take, drop, filter, refl, sym, ap, ap₂, ◌∙◌, ◌⊎◌, inl, inr, arith, tests}
use Rattle.std.proofs.Math.Seq.{take-nil}
use Rattle.std.proofs.lemmas.List.{drop_all}
use Rattle.std.proofs.lemmas.List.Sorted.{ranks_by, searchable_from_sorted}
use Rattle.std.proofs.lemmas.Fn.{always_returns_same}
use Rattle.std.specs.Cmp.{IsStrictWeakOrder}
use Rattle.std.specs.Fn.{Called, ComparesAs, Mut}
use Rattle.std.specs.List.Sorted.{IsSortedBy, IsStableBy, IsPartitionedBy, IsPartitionPoint, ties}
use Rattle.std.specs.Ordering.{is_eq, is_le, is_lt, ordering_index, ordering_reverse}
use Rattle.std.specs.declared.cmp.Ordering.{Ordering}
use Rattle.std.specs.declared.cmp.Ordering.TheVariants.{Less, Equal, Greater}
use denote.Ref.{Bor}
use Rattle.ct_types.proofs.Lists.{all_everywhere}
use Rattle.ct_types.proofs.Orders.{value_cmp_total}
use Rattle.ct_types.specs.Order.{value_cmp}
use Rattle.ct_types.specs.declared.value.Row.{Row}
use Rattle.ct_types.specs.declared.value.Value.{Value}
use Rattle.ct_source.specs.Cells.{cell, has_value}
use Rattle.ct_source.specs.Indexed.{comes_before, AreSorted}
use Rattle.ct_source.specs.Rows.{lent}
use Rattle.ct_source.proofs.OneColumn.{filter_same}

-- ---- a closure that answers by a comparison, and one that compares by a column

pub compares_by : {F X : Type 0} {g : Mut F (Bor X × (Bor X × Unit {0})) Ordering} {f : F} (cmp : X → X → Ordering)
    → ((a : Bor X × (Bor X × Unit {0})) (r : Ordering) (f' : F) → Called g f a r f' → (r ≡ cmp a.0.now a.1.0.now) × (f' ≡ f)) → ComparesAs g (λ x y. is_lt (cmp x y)) f
compares_by {g = g} {f = f} cmp h = always_returns_same g (λ a r. is_lt r ≡ is_lt (cmp a.0.now a.1.0.now)) f (λ a r f' k. (ap is_lt (h a r f' k).0, (h a r f' k).1))

pub column_order : (at : ℕ) → IsStrictWeakOrder (comes_before at)
column_order at = ranks_by value_cmp_total (λ (row : Bor Row). cell at row.now)

-- ---- members that pass tie with each other

some_or_none : {X : Type 0} (p : X → Bool) (xs : List X) → ((x : X) × (p x ≡ true)) ⊎ (filter p xs ≡ [])
some_or_none p [] = inr refl
some_or_none {X = X} p (x ∷ xs) = first (p x) refl (some_or_none p xs)
  where
    first : (b : Bool) → p x ≡ b → ((y : X) × (p y ≡ true)) ⊎ (filter p xs ≡ []) → ((y : X) × (p y ≡ true)) ⊎ (cond b (x ∷ filter p xs) (filter p xs) ≡ [])
    first true e rest = inl (x, e)
    first false e rest = rest

same_passing : {X : Type 0} (lt : X → X → Bool) (p : X → Bool) (xs ys : List X) → IsStableBy lt xs ys → ((x : X) → p x ≡ true → (y : X) → p y ≡ ties lt x y) → filter p ys ≡ filter p xs
same_passing {X = X} lt p xs ys stable tie = by (some_or_none p xs) (some_or_none p ys)
  where
    beside : (x : X) → p x ≡ true → (zs : List X) → filter p zs ≡ filter (ties lt x) zs
    beside x e zs = filter_same p (ties lt x) zs (all_everywhere (λ y. p y ≡ ties lt x y) (tie x e) zs)

    from : (x : X) → p x ≡ true → filter p ys ≡ filter p xs
    from x e = beside x e ys ∙ (stable x ∙ sym (beside x e xs))

    by : ((x : X) × (p x ≡ true)) ⊎ (filter p xs ≡ []) → ((x : X) × (p x ≡ true)) ⊎ (filter p ys ≡ []) → filter p ys ≡ filter p xs
    by (inl some) other = from some.0 some.1
    by (inr none) (inl some) = from some.0 some.1
    by (inr none) (inr nothing) = nothing ∙ sym none

-- ---- values that are equal

equal_order : (o : Ordering) → is_eq o ≡ true → o ≡ Equal
equal_order Less e = absurd cc
equal_order Equal e = refl
equal_order Greater e = absurd cc

tied_order : (o : Ordering) → is_eq (ordering_reverse o) ≡ (not (is_lt o) && not (is_lt (ordering_reverse o)))
tied_order Less = refl
tied_order Equal = refl
tied_order Greater = refl

tied_values : (u v w : Value) → is_eq (value_cmp u v) ≡ true → is_eq (value_cmp w v) ≡ (not (is_lt (value_cmp u w)) && not (is_lt (value_cmp w u)))
tied_values u v w e =
    let same : value_cmp u w ≡ value_cmp v w = value_cmp_total.congr u v w (equal_order (value_cmp u v) e) in
    ap is_eq (value_cmp_total.antisymm w v) ∙ (tied_order (value_cmp v w)
    ∙ sym (ap₂ (λ (o r : Ordering). not (is_lt o) && not (is_lt r)) same (value_cmp_total.antisymm w u ∙ ap ordering_reverse same)))

-- ---- rows that are lent

filter_lent : (p : Row → Bool) (rows : List (Bor Row)) → filter p (lent rows) ≡ lent (filter (λ row. p row.now) rows)
filter_lent p [] = refl
filter_lent p (row ∷ rows) = first (p row.now) (filter_lent p rows)
  where
    first : (b : Bool) → filter p (lent rows) ≡ lent (filter (λ row. p row.now) rows)
        → cond b (row.now ∷ filter p (lent rows)) (filter p (lent rows)) ≡ lent (cond b (row ∷ filter (λ row. p row.now) rows) (filter (λ row. p row.now) rows))
    first true e = ap (λ more. row.now ∷ more) e
    first false e = e

pub stably_sorted : (at : ℕ) (before after : List (Bor Row)) → IsSortedBy (comes_before at) after → IsStableBy (comes_before at) before after → AreSorted at (lent before) after
stably_sorted at before after rising stable = record {
  rising = rising;
  same = λ value.
      filter_lent (has_value at value) after
      ∙ (ap lent (same_passing (comes_before at) (λ row. has_value at value row.now) before after stable (λ a here b. tied_values (cell at a.now) value (cell at b.now) here))
      ∙ sym (filter_lent (has_value at value) before));
}

-- ---- where those below a value end, and those not above it

below_falls : (o r : Ordering) → ordering_index o ≤ ordering_index r → is_lt r ≡ true → is_lt o ≡ true
below_falls Less r up e = refl
below_falls Equal Less up e = absurd (omega arith)
below_falls Equal Equal up e = e
below_falls Equal Greater up e = e
below_falls Greater Less up e = absurd (omega arith)
below_falls Greater Equal up e = e
below_falls Greater Greater up e = e

most_falls : (o r : Ordering) → ordering_index o ≤ ordering_index r → is_le r ≡ true → is_le o ≡ true
most_falls Less r up e = refl
most_falls Equal r up e = refl
most_falls Greater Less up e = absurd (omega arith)
most_falls Greater Equal up e = absurd (omega arith)
most_falls Greater Greater up e = e

module _ (at : ℕ) (value : Value) where
  abbrev pub to_value : Bor Row → Ordering
  to_value row = value_cmp (cell at row.now) value

  rises_to : (rows : List (Bor Row)) → IsSortedBy (comes_before at) rows → (i j : ℕ) (d : Bor Row) → i ≤ j → j < length rows
      → ordering_index (to_value (get_or rows i d)) ≤ ordering_index (to_value (get_or rows j d))
  rises_to rows rising = searchable_from_sorted value_cmp_total (λ (row : Bor Row). cell at row.now) rows value rising

  pub below_parted : (rows : List (Bor Row)) → IsSortedBy (comes_before at) rows → IsPartitionedBy (λ row. is_lt (to_value row)) rows
  below_parted rows rising i j d before within e = below_falls (to_value (get_or rows i d)) (to_value (get_or rows j d)) (rises_to rows rising i j d before within) e

  pub most_parted : (rows : List (Bor Row)) → IsSortedBy (comes_before at) rows → IsPartitionedBy (λ row. is_le (to_value row)) rows
  most_parted rows rising i j d before within e = most_falls (to_value (get_or rows i d)) (to_value (get_or rows j d)) (rises_to rows rising i j d before within) e

  abbrev pub Below : List (Bor Row) → ℕ → Type 0
  Below rows low = IsPartitionPoint (λ row. is_lt (to_value row) ≡ true) (λ row. is_lt (to_value row) ≡ false) rows low

  abbrev pub AtMost : List (Bor Row) → ℕ → Type 0
  AtMost rows high = IsPartitionPoint (λ row. is_le (to_value row) ≡ true) (λ row. is_le (to_value row) ≡ false) rows high

  -- what is below a value is not above it
  both_not : (o : Ordering) → is_lt o ≡ true → is_le o ≡ false → ⊥
  both_not Less e f = cc
  both_not Equal e f = cc
  both_not Greater e f = cc

  pub in_order : (rows : List (Bor Row)) (low high : ℕ) → low ≤ length rows → Below rows low → AtMost rows high → low ≤ high
  in_order [] low high within below most = omega arith
  in_order (row ∷ rows) low high within below most = by (nat_lt high low) refl
    where
      by : (b : Bool) → nat_lt high low ≡ b → low ≤ high
      by true e =
          let past : high < low = search (tests, arith) in
          absurd (both_not (to_value (get_or (row ∷ rows) high row)) (below.0 high row (omega arith) past) (most.1 high row (omega arith) (omega arith)))
      by false e = search (tests, arith)

  lower : (o : Ordering) → is_lt o ≡ true → is_eq o ≡ false
  lower Less e = refl
  lower Equal e = absurd cc
  lower Greater e = refl

  between : (o : Ordering) → is_lt o ≡ false → is_le o ≡ true → is_eq o ≡ true
  between Less e f = absurd cc
  between Equal e f = refl
  between Greater e f = absurd cc

  higher : (o : Ordering) → is_le o ≡ false → is_eq o ≡ false
  higher Less e = refl
  higher Equal e = absurd cc
  higher Greater e = refl

-- ---- members that pass stand side by side

side_by_side : {X : Type 0} (p : X → Bool) (xs : List X) (low high : ℕ) → low ≤ high
    → ((k : ℕ) (d : X) → k < low → k < length xs → p (get_or xs k d) ≡ false)
    → ((k : ℕ) (d : X) → low ≤ k → k < high → k < length xs → p (get_or xs k d) ≡ true)
    → ((k : ℕ) (d : X) → high ≤ k → k < length xs → p (get_or xs k d) ≡ false)
    → filter p xs ≡ drop low (take high xs)
side_by_side p [] low high order before inside behind = sym (ap (drop low) (take-nil high) ∙ drop_all low [] (omega arith))
side_by_side p (x ∷ xs) zero zero order before inside behind =
    rw (behind 0 x (omega arith) (omega arith)) (side_by_side p xs zero zero order (λ k d l w. absurd (omega arith)) (λ k d l h w. absurd (omega arith)) (λ k d h w. behind (suc k) d (omega arith) (omega arith)))
side_by_side p (x ∷ xs) zero (suc high) order before inside behind =
    rw (inside 0 x (omega arith) (omega arith) (omega arith))
    (ap (λ more. x ∷ more) (side_by_side p xs zero high (omega arith) (λ k d l w. absurd (omega arith)) (λ k d l h w. inside (suc k) d (omega arith) (omega arith) (omega arith)) (λ k d h w. behind (suc k) d (omega arith) (omega arith))))
side_by_side p (x ∷ xs) (suc low) zero order before inside behind = absurd (omega arith)
side_by_side p (x ∷ xs) (suc low) (suc high) order before inside behind =
    rw (before 0 x (omega arith) (omega arith))
    (side_by_side p xs low high (omega arith) (λ k d l w. before (suc k) d (omega arith) (omega arith)) (λ k d l h w. inside (suc k) d (omega arith) (omega arith) (omega arith)) (λ k d h w. behind (suc k) d (omega arith) (omega arith)))

pub run_is : (at : ℕ) (value : Value) (rows : List (Bor Row)) (low high : ℕ) → low ≤ high → Below at value rows low → AtMost at value rows high
    → lent (drop low (take high rows)) ≡ filter (has_value at value) (lent rows)
run_is at value rows low high order below most =
    ap lent (sym (side_by_side (λ row. has_value at value row.now) rows low high order
    (λ k d l w. lower at value (to_value at value (get_or rows k d)) (below.0 k d (omega arith) l))
    (λ k d l h w. between at value (to_value at value (get_or rows k d)) (below.1 k d l w) (most.0 k d (omega arith) h))
    (λ k d h w. higher at value (to_value at value (get_or rows k d)) (most.1 k d h w))))
    ∙ sym (filter_lent (has_value at value) rows)
