-- A list of one.
use Rattle.std.proofs.Common.{List, [], ◌∷◌}
use Rattle.std.specs.List.{AllByRecursion}
use Rattle.ct_codec.specs.Spellings.{IsOne}

pub all_of_one : {A : Type 0} (fits : A → Type 0) (list : List A) → IsOne fits list → AllByRecursion fits list
all_of_one fits [] f = tt
all_of_one fits (a ∷ []) f = (f, tt)
all_of_one fits (a ∷ b ∷ more) f = absurd f
