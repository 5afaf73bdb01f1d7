-- A chain or a sum whose parts are walked: the first two parts, then each part in its place.
use Rattle.std.proofs.Common.{◌≡◌, Bool, List, [], ◌∷◌, map, Ok, Err, refl}
use Rattle.ct_types.specs.declared.bound.BoundExpr.{BoundExpr}
use Rattle.ct_types.specs.declared.bound.BoundTerm.{BoundTerm}
use Rattle.ct_bind_kinds.specs.declared.kind.Kind.{Kind}
use Rattle.ct_bind_kinds.specs.declared.kind.Kind.TheVariants.{Number}
use Rattle.ct_types.specs.Answers.{Answer, ◌>>=◌, ◌>>◌, each, onto}
use Rattle.ct_bind_expr.specs.declared.place.Typed.{Typed}
use Rattle.ct_bind_expr.specs.declared.place.Place.{Place}
use Rattle.ct_bind_expr.specs.Places.{closed, of_kind}
use Rattle.ct_bind_expr.specs.Versions.{Walk, operand}
use Rattle.ct_bind_expr.specs.Walk.{TermWalk, two, both_of_kind, chain, term, further_term, sum}
use Rattle.ct_bind_expr.specs.Walked.{walked, both, made_of, extended, asked, asked_term, two_asked, first_two, begun, begun_sum, alone_in_sum}

abbrev made_both : Answer BoundExpr → Answer BoundExpr → Answer (BoundExpr × BoundExpr)
made_both a b = do
  x ← a
  y ← b
  Ok (x, y)

two_of_chain : (a b : Answer BoundExpr) (rest : Answer (List BoundExpr))
    → (made_both a b >>= (λ it. rest >>= (λ more. Ok (it.0 ∷ it.1 ∷ more)))) ≡ (a >>= (λ x. (b >>= (λ y. rest >>= (λ more. Ok (y ∷ more)))) >>= (λ made. Ok (x ∷ made))))
two_of_chain (Err refusal) b rest = refl
two_of_chain (Ok x) (Err refusal) rest = refl
two_of_chain (Ok x) (Ok y) (Err refusal) = refl
two_of_chain (Ok x) (Ok y) (Ok more) = refl

pub chain_walked : (wanted : Kind) (answers : List (Answer Typed)) → chain wanted closed (map walked answers) ≡ (first_two answers >> each (operand wanted closed) (map walked answers))
unfolding chain two both_of_kind operand
chain_walked wanted [] = refl
chain_walked wanted (first ∷ []) = refl
chain_walked wanted (Err refusal ∷ second ∷ more) = refl
chain_walked wanted (Ok left ∷ Err refusal ∷ more) = refl
chain_walked wanted (Ok left ∷ Ok right ∷ more) = two_of_chain (of_kind wanted left) (of_kind wanted right) (each (operand wanted closed) (map walked more))

-- ---- a chain and a sum, once their first two parts are walked

two_begun_given : (two : Answer (BoundExpr × BoundExpr)) (rest : Answer (List BoundExpr))
    → (two >>= (λ two. rest >>= (λ more. Ok (two.0 ∷ two.1 ∷ more)))) ≡ (made_of begun two >>= (λ made. onto made rest))
two_begun_given (Err refusal) rest = refl
two_begun_given (Ok two) (Err refusal) = refl
two_begun_given (Ok two) (Ok more) = refl

two_begun : (walked : Answer (Typed × Typed)) (rule : Typed × Typed → Answer (BoundExpr × BoundExpr)) (rest : Answer (List BoundExpr))
    → (walked >>= (λ it. rule it >>= (λ two. rest >>= (λ more. Ok (two.0 ∷ two.1 ∷ more))))) ≡ (made_of begun (walked >>= rule) >>= (λ made. onto made rest))
two_begun (Err refusal) rule rest = refl
two_begun (Ok it) rule rest = two_begun_given (rule it) rest

pub chain_only : (wanted : Kind) (place : Place) (only : Walk) → chain wanted place (only ∷ []) ≡ extended [] (asked wanted (only place))
unfolding chain operand
chain_only wanted place only = refl

pub chain_two : (wanted : Kind) (place : Place) (left right : Walk) (more : List Walk)
    → chain wanted place (left ∷ right ∷ more) ≡ (made_of begun (two_asked wanted (left place) (right place)) >>= (λ made. onto made (each (operand wanted place) more)))
unfolding chain two
chain_two wanted place left right more = two_begun (both (left place) (right place)) (λ it. both_of_kind wanted it.0 it.1) (each (operand wanted place) more)

two_summed_given : (subtracts : Bool) (two : Answer (BoundExpr × BoundExpr)) (rest : Answer (List BoundTerm))
    → (two >>= (λ two. rest >>= (λ more. Ok (two.0, term subtracts two.1 ∷ more)))) ≡ (made_of (begun_sum subtracts) two >>= (λ it. both (Ok it.0) (onto it.1 rest)))
two_summed_given subtracts (Err refusal) rest = refl
two_summed_given subtracts (Ok two) (Err refusal) = refl
two_summed_given subtracts (Ok two) (Ok more) = refl

two_summed : (subtracts : Bool) (walked : Answer (Typed × Typed)) (rule : Typed × Typed → Answer (BoundExpr × BoundExpr)) (rest : Answer (List BoundTerm))
    → (walked >>= (λ it. rule it >>= (λ two. rest >>= (λ more. Ok (two.0, term subtracts two.1 ∷ more))))) ≡ (made_of (begun_sum subtracts) (walked >>= rule) >>= (λ it. both (Ok it.0) (onto it.1 rest)))
two_summed subtracts (Err refusal) rule rest = refl
two_summed subtracts (Ok it) rule rest = two_summed_given subtracts (rule it) rest

pub sum_only : (place : Place) (first : Walk) → sum place first [] ≡ made_of alone_in_sum (asked Number (first place))
unfolding sum operand
sum_only place first = refl

pub sum_two : (place : Place) (first : Walk) (subtracts : Bool) (second : Walk) (more : List TermWalk)
    → sum place first ((subtracts, second) ∷ more) ≡ (made_of (begun_sum subtracts) (two_asked Number (first place) (second place)) >>= (λ it. both (Ok it.0) (onto it.1 (each (further_term place) more))))
unfolding sum two
sum_two place first subtracts second more = two_summed subtracts (both (first place) (second place)) (λ it. both_of_kind Number it.0 it.1) (each (further_term place) more)

pub further : (place : Place) (subtracts : Bool) (value : Walk) → further_term place (subtracts, value) ≡ asked_term subtracts (value place)
unfolding further_term operand
further place subtracts value = refl
