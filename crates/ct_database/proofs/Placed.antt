-- Lists that are changed place by place.
use Rattle.std.proofs.Common.{◌≡◌, ℕ, List, [], ◌∷◌, ◌++◌, length, set, subst}
use Rattle.std.proofs.Math.Seq.{set-append_seam}
use Rattle.std.specs.List.{AllByRecursion}
use Rattle.ct_model.specs.Lists.{EachToLater}
use Rattle.ct_types.proofs.Lists.{all_front, all_back}

pub set_at : {X : Type 0} (front : List X) (i : ℕ) (x y : X) (back : List X) → length front ≡ i → set (front ++ x ∷ back) i y ≡ front ++ y ∷ back
set_at front i x y back count = subst (λ n. set (front ++ x ∷ back) n y ≡ front ++ y ∷ back) count (set-append_seam front x back y)

pub each_front : {X : Type 0} (R : X → X → Type 0) (xs ys : List X) → EachToLater R (xs ++ ys) → EachToLater R xs
each_front R [] ys each = tt
each_front R (x ∷ xs) ys each = (all_front (R x) xs ys each.0, each_front R xs ys each.1)

pub each_back : {X : Type 0} (R : X → X → Type 0) (xs ys : List X) → EachToLater R (xs ++ ys) → EachToLater R ys
each_back R [] ys each = each
each_back R (x ∷ xs) ys each = each_back R xs ys each.1

-- all in front of an item stand so to it
pub each_before : {X : Type 0} (R : X → X → Type 0) (xs : List X) (x : X) (ys : List X) → EachToLater R (xs ++ x ∷ ys) → AllByRecursion (λ y. R y x) xs
each_before R [] x ys each = tt
each_before R (y ∷ xs) x ys each = ((all_back (R y) xs (x ∷ ys) each.0).0, each_before R xs x ys each.1)
