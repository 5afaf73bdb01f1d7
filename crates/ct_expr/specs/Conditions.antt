-- Which of some things a condition keeps.
use Rattle.std.specs.Prelude.{Bool, List, [], ◌∷◌, Ok, if◌then◌else◌}
use Rattle.ct_types.specs.Answers.{Answer, ◌>>=◌}

-- those for which a test is true, in their order; each is asked, so a refusal anywhere is one of the whole
abbrev pub only : {A : Type 0} → (A → Answer Bool) → List A → Answer (List A)
only test [] = Ok []
only test (a ∷ more) = test a >>= (λ passes. only test more >>= (λ rest. Ok (if passes then a ∷ rest else rest)))
