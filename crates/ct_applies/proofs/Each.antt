-- What holds of each member, of each and every later one, and of the last one.
use Rattle.std.proofs.Common.{◌≡◌, ◌↔◌, Bool, true, suc, ◌-◌, List, [], ◌∷◌, ◌++◌, length, map, Some, refl, ap, ◌∙◌, subst, arith, length-append}
use Rattle.std.specs.List.{All, AllByRecursion, slice_get}
use Rattle.std.specs.Option.{IsSomeAnd}
use Rattle.std.proofs.lemmas.List.Elements.{All-from_recursion, recursion_from_All}
use Rattle.ct_types.proofs.Lists.{all_mapped, all_front, all_back, at_end}
use Rattle.ct_model.specs.Lists.{EachToLater}
use Rattle.ct_model.proofs.Members.{all_map}

-- ---- a test of each member, as std says it and by recursion

pub by_recursion : {X : Type 0} (P : X → Type 0) (xs : List X) (b : Bool) → (b ≡ true) ↔ All P xs → (b ≡ true) ↔ AllByRecursion P xs
by_recursion P xs b told = (λ e. recursion_from_All P xs (told.0 e), λ all. told.1 (All-from_recursion P xs all))

pub by_recursion-map : {X Y : Type 0} (P : Y → Type 0) (f : X → Y) (xs : List X) (b : Bool) → (b ≡ true) ↔ All (λ x. P (f x)) xs → (b ≡ true) ↔ AllByRecursion P (map f xs)
by_recursion-map P f xs b told =
    let each = by_recursion (λ x. P (f x)) xs b told in
    (λ e. all_map (λ x. P (f x)) P f (λ x holds. holds) xs (each.0 e), λ all. each.1 (all_mapped f P xs all))

-- ---- each to every later one

pub each_front : {X : Type 0} (R : X → X → Type 0) (xs ys : List X) → EachToLater R (xs ++ ys) → EachToLater R xs
each_front R [] ys each = tt
each_front R (x ∷ xs) ys each = (all_front (R x) xs ys each.0, each_front R xs ys each.1)

-- all in front of an item stand so to it
pub each_before : {X : Type 0} (R : X → X → Type 0) (xs : List X) (x : X) (ys : List X) → EachToLater R (xs ++ x ∷ ys) → AllByRecursion (λ y. R y x) xs
each_before R [] x ys each = tt
each_before R (y ∷ xs) x ys each = ((all_back (R y) xs (x ∷ ys) each.0).0, each_before R xs x ys each.1)

-- ---- the last of a list

-- a list with a last item, of which something holds
pub record EndsIn {X : Type 0} (P : X → Type 0) (xs : List X) : Type 0 where
  pub front : List X
  pub last : X
  pub is : xs ≡ front ++ last ∷ []
  pub holds : P last

one_longer : {X : Type 0} (P : X → Type 0) (x : X) (xs : List X) → EndsIn P xs → EndsIn P (x ∷ xs)
one_longer P x xs ends = record { front = x ∷ ends.front; last = ends.last; is = ap (λ l. x ∷ l) ends.is; holds = ends.holds }

pub behind_first : {X : Type 0} (x y : X) (xs : List X) → slice_get (x ∷ y ∷ xs) (length (x ∷ y ∷ xs) - 1) ≡ slice_get (y ∷ xs) (length (y ∷ xs) - 1)
behind_first x y xs = let e : suc (suc (length xs)) - 1 ≡ suc (suc (length xs) - 1) = omega arith in rw e refl

pub ends_in : {X : Type 0} (P : X → Type 0) (xs : List X) → IsSomeAnd (slice_get xs (length xs - 1)) P → EndsIn P xs
ends_in P [] some = absurd some
ends_in P (x ∷ []) some = record { front = []; last = x; is = refl; holds = some }
ends_in P (x ∷ y ∷ xs) some = one_longer P x (y ∷ xs) (ends_in P (y ∷ xs) (subst (λ o. IsSomeAnd o P) (behind_first x y xs) some))

pub last_is : {X : Type 0} (xs : List X) (x : X) → slice_get (xs ++ x ∷ []) (length (xs ++ x ∷ []) - 1) ≡ Some x
last_is xs x =
    let e : length (xs ++ x ∷ []) - 1 ≡ length xs = omega (arith, length-append xs (x ∷ [])) in
    ap (λ n. slice_get (xs ++ x ∷ []) n) e ∙ at_end xs x []
