-- Steps that may be refused, one after the other: the first refusal is the answer.
use Rattle.std.specs.Prelude.{List, [], ◌∷◌, Ok}
use Rattle.ct_types.specs.Answers.{Answer, ◌>>=◌}

-- each member passes
abbrev pub in_turn : {A : Type 0} → (A → Answer (Unit {0})) → List A → Answer (Unit {0})
in_turn f [] = Ok tt
in_turn f (x ∷ xs) = f x >>= (λ passed. in_turn f xs)
