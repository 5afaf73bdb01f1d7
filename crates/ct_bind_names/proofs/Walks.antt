-- One step of a walk over a list, onto what is made already.
use Rattle.std.proofs.Common.{◌≡◌, List, [], ◌∷◌, ◌++◌, Ok, Err, refl, sym, ap, ◌∙◌, append_assoc}
use Rattle.ct_types.specs.declared.refusal.Refusal.{Refusal}
use Rattle.ct_types.specs.Answers.{Answer, ◌>>=◌, each, each_after, onto}

pub onto_one : {B : Type 0} (made : List B) (b : B) (rest : Answer (List B)) → onto made (rest >>= (λ more. Ok (b ∷ more))) ≡ onto (made ++ b ∷ []) rest
onto_one made b (Ok more) = ap (λ all. Ok all) (sym (append_assoc made (b ∷ []) more))
onto_one made b (Err refusal) = refl

pub each_onto : {A B : Type 0} (step : A → Answer B) (a : A) (more : List A) (made : List B) (b : B)
    → step a ≡ Ok b → onto made (each step (a ∷ more)) ≡ onto (made ++ b ∷ []) (each step more)
each_onto step a more made b e =
    ap (λ first. onto made (first >>= (λ b. each step more >>= (λ all. Ok (b ∷ all))))) e ∙ onto_one made b (each step more)

pub each_stops : {A B : Type 0} (step : A → Answer B) (a : A) (more : List A) (made : List B) (refusal : Refusal)
    → step a ≡ Err refusal → onto made (each step (a ∷ more)) ≡ Err refusal
each_stops step a more made refusal e = ap (λ first. onto made (first >>= (λ b. each step more >>= (λ all. Ok (b ∷ all))))) e

pub each_after_onto : {A B : Type 0} (step : List A → A → Answer B) (before : List A) (a : A) (more : List A) (made : List B) (b : B)
    → step before a ≡ Ok b → onto made (each_after step before (a ∷ more)) ≡ onto (made ++ b ∷ []) (each_after step (before ++ a ∷ []) more)
each_after_onto step before a more made b e =
    ap (λ first. onto made (first >>= (λ b. each_after step (before ++ a ∷ []) more >>= (λ all. Ok (b ∷ all))))) e ∙ onto_one made b (each_after step (before ++ a ∷ []) more)

pub each_after_stops : {A B : Type 0} (step : List A → A → Answer B) (before : List A) (a : A) (more : List A) (made : List B) (refusal : Refusal)
    → step before a ≡ Err refusal → onto made (each_after step before (a ∷ more)) ≡ Err refusal
each_after_stops step before a more made refusal e =
    ap (λ first. onto made (first >>= (λ b. each_after step (before ++ a ∷ []) more >>= (λ all. Ok (b ∷ all))))) e

-- a step that adds several, and then the rest
pub onto_more : {B : Type 0} (made later : List B) (step rest : Answer (List B))
    → onto made step ≡ Ok later → onto made (step >>= (λ first. rest >>= (λ more. Ok (first ++ more)))) ≡ onto later rest
onto_more made later (Ok first) (Ok more) e = let same : made ++ first ≡ later = cc in ap (λ all. Ok all) (sym (append_assoc made first more) ∙ ap (λ front. front ++ more) same)
onto_more made later (Ok first) (Err refusal) e = refl
onto_more made later (Err refusal) rest e = absurd cc

pub onto_stops : {B : Type 0} (made : List B) (step rest : Answer (List B)) (refusal : Refusal)
    → step ≡ Err refusal → onto made (step >>= (λ first. rest >>= (λ more. Ok (first ++ more)))) ≡ Err refusal
onto_stops made step rest refusal e = ap (λ it. onto made (it >>= (λ first. rest >>= (λ more. Ok (first ++ more))))) e
