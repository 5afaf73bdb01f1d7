-- Members of lists, and what is found in them.
use Rattle.std.proofs.Common.{◌≡◌, ◌<◌, Bool, true, false, cond, List, [], ◌∷◌, length, map, find, Some, refl, subst, arith}
use Rattle.std.specs.List.{AllByRecursion, Contains}
use Rattle.std.proofs.lemmas.List.Elements.{Contains-append_right}
use Rattle.ct_model.proofs.Members.{all_weaken}

pub first_is_in : {X : Type 0} (x : X) (xs : List X) → Contains (x ∷ xs) x
first_is_in x xs = let some : 0 < length (x ∷ xs) = omega arith in (0, some, refl)

pub later_is_in : {X : Type 0} (x : X) (xs : List X) (y : X) → Contains xs y → Contains (x ∷ xs) y
later_is_in x xs y is = Contains-append_right (x ∷ []) xs y is

-- each member is in the list
pub each_is_in : {X Y : Type 0} (f : Y → X) (ys : List Y) → AllByRecursion (λ y. Contains (map f ys) (f y)) ys
each_is_in f [] = tt
each_is_in f (y ∷ ys) = (first_is_in (f y) (map f ys), all_weaken _ _ (λ z is. later_is_in (f y) (map f ys) (f z) is) ys (each_is_in f ys))

-- what is found is in the list, and passes
pub found_is_in : {X : Type 0} (test : X → Bool) (xs : List X) (x : X) → find test xs ≡ Some x → Contains xs x × (test x ≡ true)
found_is_in test [] x e = absurd cc
found_is_in test (y ∷ xs) x e =
    let step : (b : Bool) → test y ≡ b → cond b (Some y) (find test xs) ≡ Some x → Contains (y ∷ xs) x × (test x ≡ true) =
    elim [
      | true ↦ (λ passes e. let same : y ≡ x = cc in subst (λ z. Contains (y ∷ xs) z × (test z ≡ true)) same (first_is_in y xs, passes))
      | false ↦ (λ fails e. let more = found_is_in test xs x e in (later_is_in y xs x more.0, more.1))
    ] in
    step (test y) refl e

-- what holds of every member of a list holds of each
pub all_members : {X : Type 0} (P : X → Type 0) (xs : List X) → ((x : X) → Contains xs x → P x) → AllByRecursion P xs
all_members P [] go = tt
all_members P (x ∷ xs) go = (go x (first_is_in x xs), all_members P xs (λ y is. go y (later_is_in x xs y is)))
