-- What is told of a list of the tables or the commits of a database, by a list that was made of each.
use Rattle.std.proofs.Common.{◌≡◌, ◌↔◌, Bool, IsTrue, List, map, sym, subst}
use Rattle.std.specs.List.{AllByRecursion}
use Rattle.ct_types.proofs.Lists.{all_mapped}
use Rattle.ct_model.proofs.Members.{all_map}

-- a test of all that was made of the members is one of all members
pub told_listed : {X Y : Type 0} (f : X → Y) (P : Y → Type 0) (xs : List X) (ys : List Y) (b : Bool) → ys ≡ map f xs → IsTrue b ↔ AllByRecursion P ys → IsTrue b ↔ AllByRecursion (λ x. P (f x)) xs
told_listed f P xs ys b same told =
    (λ e. all_mapped f P xs (subst (AllByRecursion P) same (told.0 e)), λ all. told.1 (subst (AllByRecursion P) (sym same) (all_map (λ x. P (f x)) P f (λ x holds. holds) xs all)))
