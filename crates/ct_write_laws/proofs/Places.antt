-- Members of a list by their places, and a test that one of them passes.
use Rattle.std.proofs.Common.{◌≡◌, ℕ, zero, suc, ◌<◌, Bool, true, false, ◌||◌, List, [], ◌∷◌, ◌++◌, length, slice_get, Some, refl, sym, ap, ◌∙◌, arith}
use Rattle.std.specs.List.{list_any, Contains}
use Rattle.std.proofs.lemmas.Option.{slice_get_within, slice_get-get_or, get_or_from_slice_get}

-- a member that passes, and where it stands
pub record Passes {X : Type 0} (test : X → Bool) (xs : List X) : Type 0 where
  pub place : ℕ
  pub one : X
  pub stands : slice_get xs place ≡ Some one
  pub passes : test one ≡ true

pub some_passes : {X : Type 0} (test : X → Bool) (xs : List X) → list_any test xs ≡ true → Passes test xs
some_passes test [] e = absurd cc
some_passes test (x ∷ xs) e =
    let step : (b : Bool) → b ≡ test x → (b || list_any test xs) ≡ true → Passes test (x ∷ xs) =
    elim [
      | true ↦ (λ is e. record { place = 0; one = x; stands = refl; passes = sym is })
      | false ↦ (λ is e. let more = some_passes test xs e in record { place = suc more.place; one = more.one; stands = more.stands; passes = more.passes })
    ] in
    step (test x) refl e

-- a member is one at its place
pub contained : {X : Type 0} (xs : List X) (place : ℕ) (x : X) → slice_get xs place ≡ Some x → Contains xs x
contained xs place x e = (place, slice_get_within xs place x e, get_or_from_slice_get xs place x x e)

pub stands_at : {X : Type 0} (xs : List X) (x : X) (is : Contains xs x) → slice_get xs is.0 ≡ Some x
stands_at xs x is = slice_get-get_or xs is.0 x is.1 ∙ ap Some is.2

-- what stands in the front part stands in the whole
pub front_stays : {X : Type 0} (xs ys : List X) (place : ℕ) → place < length xs → slice_get (xs ++ ys) place ≡ slice_get xs place
front_stays [] ys place below = absurd (omega arith)
front_stays (x ∷ xs) ys zero below = refl
front_stays (x ∷ xs) ys (suc place) below = front_stays xs ys place (omega arith)
