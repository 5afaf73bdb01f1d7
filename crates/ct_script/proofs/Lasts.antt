-- The last of a list, and what stands before it.
use Rattle.std.proofs.Common.{◌≡◌, ◌-◌, ◌⊎◌, inl, inr, List, [], ◌∷◌, ◌++◌, length, take, Option, Some, refl, ap, arith}
use Rattle.std.specs.List.{last_or}
use Rattle.std.proofs.lemmas.Grind.{common_steps}

pub last_or-push : {X : Type 0} (o : Option X) (xs : List X) (x : X) → last_or o (xs ++ x ∷ []) ≡ Some x
last_or-push o [] x = refl
last_or-push o (y ∷ xs) x = last_or-push (Some y) xs x

pub take-front : {X : Type 0} (xs : List X) (x : X) → take (length (xs ++ x ∷ []) - 1) (xs ++ x ∷ []) ≡ xs
take-front xs x = grind (arith, common_steps)

-- a list is empty, or has a last
pub has_last : {X : Type 0} (xs : List X) → (xs ≡ []) ⊎ ((front : List X) × (x : X) × (xs ≡ front ++ x ∷ []))
has_last [] = inl refl
has_last {X} (y ∷ xs) = by (has_last xs)
  where
    by : (xs ≡ []) ⊎ ((front : List X) × (x : X) × (xs ≡ front ++ x ∷ [])) → (y ∷ xs ≡ []) ⊎ ((front : List X) × (x : X) × (y ∷ xs ≡ front ++ x ∷ []))
    by (inl e) = inr ([], y, ap (λ l. y ∷ l) e)
    by (inr (front, x, e)) = inr (y ∷ front, x, ap (λ l. y ∷ l) e)
