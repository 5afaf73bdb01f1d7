-- Answers over lists, from the first member to the last. Each member is asked, so a refusal anywhere is one of the whole.
use Rattle.std.specs.Prelude.{List, [], ◌∷◌, ◌++◌, Ok}
use Rattle.ct_types.specs.Answers.{Answer, ◌>>=◌}

-- those that each comes to, one after another
abbrev pub all_of : {A B : Type 0} → (A → Answer (List B)) → List A → Answer (List B)
all_of f [] = Ok []
all_of f (a ∷ more) = f a >>= (λ some. all_of f more >>= (λ rest. Ok (some ++ rest)))
