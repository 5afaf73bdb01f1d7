-- Lists of pairs in rising order of keys: their parts, and what stands below and above a key.
use Rattle.std.proofs.Common.{◌≡◌, Bool, List, [], ◌∷◌, ◌++◌, cond, true, false, filter, refl, ap, ◌∙◌, subst, ◌⊎◌, inl, inr}
use Rattle.std.specs.Prelude.{Result, Ok, Err, OnOk, OnErr}
use Rattle.std.specs.List.{AllByRecursion}
use Rattle.std.specs.declared.cmp.Ordering.{Ordering}
use Rattle.std.specs.declared.cmp.Ordering.TheVariants.{Less, Equal, Greater}
use Rattle.std.specs.Ordering.{is_lt, is_gt, ordering_reverse}
use Rattle.ct_types.specs.Order.{key_cmp}
use Rattle.ct_types.proofs.Orders.{key_cmp_total, key_cmp_exact}
use Rattle.ct_types.specs.declared.value.Key.{Key}
use Rattle.ct_ptree.specs.declared.pair.Pair.{Pair}
use Rattle.ct_ptree.specs.Pairs.{Ascends, AllBelow, AllAbove, is_below, is_above, with_pair, without}
use Rattle.ct_ptree.proofs.Lists.{all_weaken, all_everywhere, all_append, all_front, all_back, all_filter}

pub turned : (a b : Key) → key_cmp a b ≡ Greater → key_cmp b a ≡ Less
turned a b e = key_cmp_total.antisymm b a ∙ ap ordering_reverse e

pub flipped : (a b : Key) → key_cmp b a ≡ Less → key_cmp a b ≡ Greater
flipped a b e = key_cmp_total.antisymm a b ∙ ap ordering_reverse e

pub less_of : (o : Ordering) → is_lt o ≡ true → o ≡ Less
less_of Less e = refl
less_of Equal e = cc
less_of Greater e = cc

greater_of : (o : Ordering) → is_gt o ≡ true → o ≡ Greater
greater_of Less e = cc
greater_of Equal e = cc
greater_of Greater e = refl

module _ {V : Type 0} where
  pub ascends_front : (xs ys : List (Pair V)) → Ascends (xs ++ ys) → Ascends xs
  ascends_front [] ys rising = tt
  ascends_front (x ∷ xs) ys rising = (all_front (λ y. key_cmp x.key y.key ≡ Less) xs ys rising.0, ascends_front xs ys rising.1)

  pub ascends_back : (xs ys : List (Pair V)) → Ascends (xs ++ ys) → Ascends ys
  ascends_back [] ys rising = rising
  ascends_back (x ∷ xs) ys rising = ascends_back xs ys rising.1

  pub ascends_append : (xs ys : List (Pair V)) → Ascends xs → Ascends ys
      → AllByRecursion (λ (x : Pair V). AllByRecursion (λ (y : Pair V). key_cmp x.key y.key ≡ Less) ys) xs → Ascends (xs ++ ys)
  ascends_append [] ys p q cross = q
  ascends_append (x ∷ xs) ys p q cross = (all_append (λ y. key_cmp x.key y.key ≡ Less) xs ys p.0 cross.0, ascends_append xs ys p.1 q cross.1)

  ascends_filter : (p : Pair V → Bool) (xs : List (Pair V)) → Ascends xs → Ascends (filter p xs)
  ascends_filter p [] rising = tt
  ascends_filter p (x ∷ xs) rising =
      elim (p x) as (λ b. Ascends (cond b (x ∷ filter p xs) (filter p xs)))
      [ true ↦ (all_filter (λ y. key_cmp x.key y.key ≡ Less) (λ y. key_cmp x.key y.key ≡ Less) p (λ y e r. r) xs rising.0, ascends_filter p xs rising.1) | false ↦ ascends_filter p xs rising.1 ]

  -- what comes before a key that is not above another one is below that one
  pub below_front : (key : Key) (xs : List (Pair V)) (x : Pair V) (ys : List (Pair V)) → Ascends (xs ++ x ∷ ys)
      → (key_cmp x.key key ≡ Less) ⊎ (key_cmp x.key key ≡ Equal) → AllBelow key xs
  below_front key [] x ys rising at = tt
  below_front key (a ∷ xs) x ys rising at =
      let first : key_cmp a.key x.key ≡ Less = (all_back (λ y. key_cmp a.key y.key ≡ Less) xs (x ∷ ys) rising.0).0 in
      let step : (key_cmp x.key key ≡ Less) ⊎ (key_cmp x.key key ≡ Equal) → key_cmp a.key key ≡ Less =
      elim [ inl e ↦ key_cmp_total.trans a.key x.key key first e | inr e ↦ subst (λ k. key_cmp a.key k ≡ Less) (key_cmp_exact x.key key e) first ] in
      (step at, below_front key xs x ys rising.1 at)

  -- what comes after a key that is not below another one is above that one
  pub above_rest : (key : Key) (x : Pair V) (ys : List (Pair V)) → Ascends (x ∷ ys)
      → (key_cmp x.key key ≡ Greater) ⊎ (key_cmp x.key key ≡ Equal) → AllAbove key ys
  above_rest key x ys rising at =
      let step : (y : Pair V) → key_cmp x.key y.key ≡ Less → (key_cmp x.key key ≡ Greater) ⊎ (key_cmp x.key key ≡ Equal) → key_cmp y.key key ≡ Greater =
      λ y less. elim [
        | inl e ↦ flipped y.key key (key_cmp_total.trans key x.key y.key (turned x.key key e) less)
        | inr e ↦ flipped y.key key (subst (λ k. key_cmp k y.key ≡ Less) (key_cmp_exact x.key key e) less)
      ] in
      all_weaken (λ y. key_cmp x.key y.key ≡ Less) (λ y. key_cmp y.key key ≡ Greater) (λ y less. step y less at) ys rising.0

  lows_below : (key : Key) (xs : List (Pair V)) → AllBelow key (filter (is_below key) xs)
  lows_below key xs = all_filter (λ p. Unit {0}) (λ p. key_cmp p.key key ≡ Less) (is_below key) (λ p e u. less_of _ e) xs (all_everywhere (λ p. Unit {0}) (λ p. tt) xs)

  highs_above : (key : Key) (xs : List (Pair V)) → AllByRecursion (λ (p : Pair V). key_cmp key p.key ≡ Less) (filter (is_above key) xs)
  highs_above key xs = all_filter (λ p. Unit {0}) (λ p. key_cmp key p.key ≡ Less) (is_above key) (λ p e u. turned p.key key (greater_of _ e)) xs (all_everywhere (λ p. Unit {0}) (λ p. tt) xs)

  lows_to_highs : (key : Key) (xs ys : List (Pair V)) → AllBelow key xs → AllByRecursion (λ (p : Pair V). key_cmp key p.key ≡ Less) ys
      → AllByRecursion (λ (x : Pair V). AllByRecursion (λ (y : Pair V). key_cmp x.key y.key ≡ Less) ys) xs
  lows_to_highs key xs ys low high =
      all_weaken (λ (x : Pair V). key_cmp x.key key ≡ Less) (λ (x : Pair V). AllByRecursion (λ (y : Pair V). key_cmp x.key y.key ≡ Less) ys)
      (λ x e. all_weaken (λ (y : Pair V). key_cmp key y.key ≡ Less) (λ (y : Pair V). key_cmp x.key y.key ≡ Less) (λ y h. key_cmp_total.trans x.key key y.key e h) ys high) xs low

  pub with_ascends : (xs : List (Pair V)) (pair : Pair V) → Ascends xs → Ascends (with_pair xs pair)
  with_ascends xs pair rising =
      let lows : List (Pair V) = filter (is_below pair.key) xs in
      let highs : List (Pair V) = filter (is_above pair.key) xs in
      let high : AllByRecursion (λ (p : Pair V). key_cmp pair.key p.key ≡ Less) highs = highs_above pair.key xs in
      let low : AllBelow pair.key lows = lows_below pair.key xs in
      let cross : AllByRecursion (λ (x : Pair V). AllByRecursion (λ (y : Pair V). key_cmp x.key y.key ≡ Less) (pair ∷ highs)) lows =
      all_weaken (λ (x : Pair V). key_cmp x.key pair.key ≡ Less) (λ (x : Pair V). AllByRecursion (λ (y : Pair V). key_cmp x.key y.key ≡ Less) (pair ∷ highs))
      (λ x e. (e, all_weaken (λ (y : Pair V). key_cmp pair.key y.key ≡ Less) (λ (y : Pair V). key_cmp x.key y.key ≡ Less) (λ y h. key_cmp_total.trans x.key pair.key y.key e h) highs high)) lows low in
      ascends_append lows (pair ∷ highs) (ascends_filter (is_below pair.key) xs rising) (high, ascends_filter (is_above pair.key) xs rising) cross

  pub without_ascends : (xs : List (Pair V)) (key : Key) → Ascends xs → Ascends (without xs key)
  without_ascends xs key rising =
      ascends_append (filter (is_below key) xs) (filter (is_above key) xs) (ascends_filter (is_below key) xs rising) (ascends_filter (is_above key) xs rising)
      (lows_to_highs key (filter (is_below key) xs) (filter (is_above key) xs) (lows_below key xs) (highs_above key xs))

  -- after a change that is made, or is not for want of memory
  pub changed_ascends : {U E : Type 0} (r : Result U E) (old made new : List (Pair V)) → Ascends old → Ascends made → OnOk r (new ≡ made) → OnErr r (new ≡ old) → Ascends new
  changed_ascends (Ok u) old made new before after ok err = rw ok after
  changed_ascends (Err e) old made new before after ok err = rw err before
