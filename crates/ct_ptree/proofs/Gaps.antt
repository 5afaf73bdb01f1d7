-- The steps of a search in a leaf, and what it finds.
use Rattle.std.proofs.Common.{◌≡◌, ℕ, ◌+◌, ◌<◌, List, [], ◌∷◌, ◌++◌, length, take, drop, get_or, set, filter, None, Some, refl, sym, ap, ap₂, ◌∙◌, subst, inl, inr, ◌⊎◌, take-append-drop, append-nil, length-take, length-drop, arith}
use Rattle.std.proofs.lemmas.List.{get_or_read}
use Rattle.std.specs.declared.cmp.Ordering.TheVariants.{Less, Equal, Greater}
use Rattle.ct_types.specs.Order.{key_cmp}
use Rattle.ct_types.specs.declared.value.Key.{Key}
use Rattle.ct_ptree.specs.declared.pair.Pair.{Pair}
use Rattle.ct_ptree.specs.Pairs.{Ascends, AllBelow, AllAbove, is_below, is_above, value_at, with_pair, without, from_key, IsFoundAt}
use Rattle.ct_ptree.proofs.Lists.{all_append, split_at, drop_at, take_at, set_split}
use Rattle.ct_ptree.proofs.Rising.{ascends_back, below_front, above_rest}
use Rattle.ct_ptree.proofs.Around.{lows_around, highs_around, at_around, rest_around}

at_low_one : {V : Type 0} (key : Key) (p : Pair V) → key_cmp p.key key ≡ Equal → filter (is_below key) (p ∷ []) ≡ []
at_low_one key p e = rw e refl

at_high_one : {V : Type 0} (key : Key) (p : Pair V) → key_cmp p.key key ≡ Equal → filter (is_above key) (p ∷ []) ≡ []
at_high_one key p e = rw e refl

at_one : {V : Type 0} (key : Key) (p : Pair V) → key_cmp p.key key ≡ Equal → value_at (p ∷ []) key ≡ Some p.value
at_one key p e = rw e refl

rest_one : {V : Type 0} (key : Key) (p : Pair V) → key_cmp p.key key ≡ Equal → from_key (p ∷ []) key ≡ p ∷ []
rest_one key p e = rw e refl

module _ {V : Type 0} where
  pub low_front : (key : Key) (xs : List (Pair V)) (i : ℕ) (it : Pair V) → i < length xs → it ≡ get_or xs i it
      → Ascends xs → (key_cmp it.key key ≡ Less) ⊎ (key_cmp it.key key ≡ Equal) → AllBelow key (take i xs)
  low_front key xs i it within is rising at =
      below_front key (take i xs) it (drop (i + 1) xs) (subst Ascends (split_at xs i it within is) rising) at

  pub low_step : (key : Key) (xs : List (Pair V)) (i : ℕ) (it : Pair V) → i < length xs → it ≡ get_or xs i it
      → Ascends xs → key_cmp it.key key ≡ Less → AllBelow key (take (i + 1) xs)
  low_step key xs i it within is rising less =
      subst (AllBelow key) (sym (take_at xs i it within is))
      (all_append (λ p. key_cmp p.key key ≡ Less) (take i xs) (it ∷ []) (low_front key xs i it within is rising (inl less)) (less, tt))

  pub high_rest : (key : Key) (xs : List (Pair V)) (i : ℕ) (it : Pair V) → i < length xs → it ≡ get_or xs i it
      → Ascends xs → (key_cmp it.key key ≡ Greater) ⊎ (key_cmp it.key key ≡ Equal) → AllAbove key (drop (i + 1) xs)
  high_rest key xs i it within is rising at =
      above_rest key it (drop (i + 1) xs) (ascends_back (take i xs) (it ∷ drop (i + 1) xs) (subst Ascends (split_at xs i it within is) rising)) at

  pub high_step : (key : Key) (xs : List (Pair V)) (i : ℕ) (it : Pair V) → i < length xs → it ≡ get_or xs i it
      → Ascends xs → key_cmp it.key key ≡ Greater → AllAbove key (drop i xs)
  high_step key xs i it within is rising greater =
      subst (AllAbove key) (sym (drop_at xs i it within is)) (greater, high_rest key xs i it within is rising (inl greater))

  -- the key stands nowhere
  gap_split : (xs : List (Pair V)) (i : ℕ) → xs ≡ take i xs ++ ([] ++ drop i xs)
  gap_split xs i = sym (take-append-drop i xs)

  pub gap_low : (key : Key) (xs : List (Pair V)) (i : ℕ) → AllBelow key (take i xs) → AllAbove key (drop i xs)
      → take i xs ≡ filter (is_below key) xs
  gap_low key xs i low high =
      sym (ap (filter (is_below key)) (gap_split xs i) ∙ lows_around key (take i xs) [] (drop i xs) low high ∙ append-nil _)

  pub gap_high : (key : Key) (xs : List (Pair V)) (i : ℕ) → AllBelow key (take i xs) → AllAbove key (drop i xs)
      → drop i xs ≡ filter (is_above key) xs
  gap_high key xs i low high = sym (ap (filter (is_above key)) (gap_split xs i) ∙ highs_around key (take i xs) [] (drop i xs) low high)

  pub gap_none : (key : Key) (xs : List (Pair V)) (i : ℕ) → AllBelow key (take i xs) → AllAbove key (drop i xs)
      → value_at xs key ≡ None
  gap_none key xs i low high = ap (λ ys. value_at ys key) (gap_split xs i) ∙ at_around key (take i xs) [] (drop i xs) low high

  -- the key stands here
  pub here_low : (key : Key) (xs : List (Pair V)) (i : ℕ) (it : Pair V) → i < length xs → it ≡ get_or xs i it
      → Ascends xs → key_cmp it.key key ≡ Equal → take i xs ≡ filter (is_below key) xs
  here_low key xs i it within is rising e =
      sym (ap (filter (is_below key)) (split_at xs i it within is)
      ∙ lows_around key (take i xs) (it ∷ []) (drop (i + 1) xs) (low_front key xs i it within is rising (inr e)) (high_rest key xs i it within is rising (inr e))
      ∙ ap (λ ys. take i xs ++ ys) (at_low_one key it e) ∙ append-nil _)

  pub here_high : (key : Key) (xs : List (Pair V)) (i : ℕ) (it : Pair V) → i < length xs → it ≡ get_or xs i it
      → Ascends xs → key_cmp it.key key ≡ Equal → drop (i + 1) xs ≡ filter (is_above key) xs
  here_high key xs i it within is rising e =
      sym (ap (filter (is_above key)) (split_at xs i it within is)
      ∙ highs_around key (take i xs) (it ∷ []) (drop (i + 1) xs) (low_front key xs i it within is rising (inr e)) (high_rest key xs i it within is rising (inr e))
      ∙ ap (λ ys. ys ++ drop (i + 1) xs) (at_high_one key it e))

  pub here_found : (key : Key) (xs : List (Pair V)) (i : ℕ) (it : Pair V) → i < length xs → it ≡ get_or xs i it
      → Ascends xs → key_cmp it.key key ≡ Equal → IsFoundAt xs key i
  here_found key xs i it within is rising e = λ other same.
      ap (λ ys. value_at ys key) (split_at xs i it within is)
      ∙ at_around key (take i xs) (it ∷ []) (drop (i + 1) xs) (low_front key xs i it within is rising (inr e)) (high_rest key xs i it within is rising (inr e))
      ∙ at_one key it e ∙ ap (λ (a : Pair V). Some a.value) (get_or_read xs i it within is other ∙ sym same)

  pub halves : (xs : List (Pair V)) (n : ℕ) (a b : List (Pair V)) → a ≡ take n xs → b ≡ drop n xs → 0 < n → n < length xs
      → (a ++ b ≡ xs) × (0 < length a) × (0 < length b)
  halves xs n a b front back some less = (
    ap₂ (λ x y. x ++ y) front back ∙ take-append-drop n xs,
    rw (front, length-take) (omega arith),
    rw (back, length-drop) (omega arith),
  )

  pub gap_rest : (key : Key) (xs : List (Pair V)) (i : ℕ) → AllBelow key (take i xs) → AllAbove key (drop i xs)
      → drop i xs ≡ from_key xs key
  gap_rest key xs i low high = sym (ap (λ ys. from_key ys key) (gap_split xs i) ∙ rest_around key (take i xs) [] (drop i xs) low high)

  pub here_rest : (key : Key) (xs : List (Pair V)) (i : ℕ) (it : Pair V) → i < length xs → it ≡ get_or xs i it
      → Ascends xs → key_cmp it.key key ≡ Equal → drop i xs ≡ from_key xs key
  here_rest key xs i it within is rising e =
      drop_at xs i it within is
      ∙ sym (ap (λ ys. from_key ys key) (split_at xs i it within is)
      ∙ rest_around key (take i xs) (it ∷ []) (drop (i + 1) xs) (low_front key xs i it within is rising (inr e)) (high_rest key xs i it within is rising (inr e))
      ∙ ap (λ ys. ys ++ drop (i + 1) xs) (rest_one key it e))

  -- another pair of the key that stands here
  pub put_there : (xs : List (Pair V)) (i : ℕ) (it : Pair V) → i < length xs
      → take i xs ≡ filter (is_below it.key) xs → drop (i + 1) xs ≡ filter (is_above it.key) xs
      → set xs i it ≡ with_pair xs it
  put_there xs i it within low high = set_split xs i it within ∙ ap₂ (λ a b. a ++ it ∷ b) low high

  -- the list without its members from one place up to another one
  pub taken_between : (key : Key) (xs : List (Pair V)) (i j : ℕ)
      → take i xs ≡ filter (is_below key) xs → drop j xs ≡ filter (is_above key) xs
      → take i xs ++ drop j xs ≡ without xs key
  taken_between key xs i j low high = ap₂ (λ a b. a ++ b) low high
