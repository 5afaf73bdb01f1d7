-- Words on lists. This project's own.
use Rattle.std.specs.Prelude.{List, [], ◌∷◌}
use Rattle.std.specs.List.{AllByRecursion}

-- each member stands so to every one that comes after it
abbrev pub EachToLater : {X : Type 0} → (X → X → Type 0) → List X → Type 0
EachToLater R [] = Unit {0}
EachToLater R (x ∷ xs) = AllByRecursion (R x) xs × EachToLater R xs
