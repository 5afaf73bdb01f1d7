-- How long what is made of parts is.
use Rattle.std.proofs.Common.{ℕ, zero, suc, ◌*◌, ◌≤◌, Bool, true, false, cond, List, [], ◌∷◌, length, filter, flat_map, slice_get, Option, Some, None, IfSome, arith, length-append, mul-suc}
use Rattle.std.specs.List.{AllByRecursion}

-- parts of at most so many bytes
pub flat_most : {X : Type 0} (f : X → List ℕ) (most : ℕ) (xs : List X) → AllByRecursion (λ x. length (f x) ≤ most) xs → length (flat_map f xs) ≤ most * length xs
flat_most f most [] all = omega arith
flat_most f most (x ∷ xs) all = omega (arith, length-append (f x) (flat_map f xs), all.0, flat_most f most xs all.1, mul-suc most (length xs))

-- parts that are not empty
pub flat_least : {X : Type 0} (f : X → List ℕ) (xs : List X) → ((x : X) → 1 ≤ length (f x)) → length xs ≤ length (flat_map f xs)
flat_least f [] some = omega arith
flat_least f (x ∷ xs) some = omega (arith, length-append (f x) (flat_map f xs), some x, flat_least f xs some)

-- some of the parts
pub flat_filter : {X : Type 0} (f : X → List ℕ) (p : X → Bool) (xs : List X) → length (flat_map f (filter p xs)) ≤ length (flat_map f xs)
flat_filter f p [] = omega arith
flat_filter f p (x ∷ xs) = by (p x) (flat_filter f p xs)
  where
    by : (b : Bool) → length (flat_map f (filter p xs)) ≤ length (flat_map f xs) → length (flat_map f (cond b (x ∷ filter p xs) (filter p xs))) ≤ length (flat_map f (x ∷ xs))
    by true rest = omega (arith, rest, length-append (f x) (flat_map f (filter p xs)), length-append (f x) (flat_map f xs))
    by false rest = omega (arith, rest, length-append (f x) (flat_map f xs))

-- one of the parts
pub flat_one : {X : Type 0} (f : X → List ℕ) (xs : List X) (i : ℕ) → IfSome (slice_get xs i) (λ x. length (f x) ≤ length (flat_map f xs))
flat_one f [] i = tt
flat_one f (x ∷ xs) zero = omega (arith, length-append (f x) (flat_map f xs))
flat_one f (x ∷ xs) (suc i) = by (slice_get xs i) (flat_one f xs i)
  where
    by : (o : Option _) → IfSome o (λ y. length (f y) ≤ length (flat_map f xs)) → IfSome o (λ y. length (f y) ≤ length (flat_map f (x ∷ xs)))
    by None is = tt
    by (Some y) is = omega (arith, length-append (f x) (flat_map f xs), is)

-- what stands at a place is one of all
pub all_at : {X : Type 0} (P : X → Type 0) (xs : List X) (i : ℕ) → AllByRecursion P xs → IfSome (slice_get xs i) P
all_at P [] i all = tt
all_at P (x ∷ xs) zero all = all.0
all_at P (x ∷ xs) (suc i) all = all_at P xs i all.1
