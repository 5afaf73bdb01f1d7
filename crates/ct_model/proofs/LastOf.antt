-- The last of a list stands at its end.
use Rattle.std.proofs.Common.{◌≡◌, suc, ◌-◌, List, [], ◌∷◌, length, refl, arith}
use Rattle.std.specs.List.{slice_get}
use Rattle.ct_model.specs.declared.db.Dated.{Dated}
use Rattle.ct_model.specs.Net.{last_of}

pub last_of-get : (xs : List Dated) → slice_get xs (length xs - 1) ≡ last_of xs
last_of-get [] = refl
last_of-get (y ∷ []) = refl
last_of-get (y ∷ z ∷ xs) = let e : suc (suc (length xs)) - 1 ≡ suc (suc (length xs) - 1) = omega arith in rw e (last_of-get (z ∷ xs))
