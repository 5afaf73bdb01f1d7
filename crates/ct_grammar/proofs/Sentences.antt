-- Whole sentences: where nothing is left, a reader finds exactly what its rule says.
use Rattle.std.proofs.Common.{◌≡◌, ℕ, suc, inl, inr, List, [], ◌∷◌, ◌++◌, Some, Ok, Err, sym, ap, ◌∙◌, subst, append-nil, arith}
use Rattle.std.specs.Prelude.{Bool}
use Rattle.ct_grammar.specs.Kinds.{Set}
use Rattle.ct_grammar.specs.Lexemes.{Lexeme}
use Rattle.ct_grammar.specs.Reading.{Outcome, Reader, ended, whole}
use Rattle.ct_grammar.proofs.FirstSets.{end_not_next}
use Rattle.ct_grammar.proofs.Outcomes.{Accepted, Justified, Finds, ReadsRule}

module _ {A : Type 0} {L : ℕ → A → List Lexeme → Type 0} {d : ℕ} {p : Reader A} {s : Set} {e : Bool} {g : Set} (law : ReadsRule L d p s e g) where
  pub sentence_read : (a : A) (xs : List Lexeme) → L d a xs → p xs ≡ Ok (a, [])
  sentence_read a xs h = by (law.complete d a xs [] h (end_not_next g))
    where
      by : Finds d d (p (xs ++ [])) a [] → p xs ≡ Ok (a, [])
      by (inl found) = subst (λ z. p z ≡ Ok (a, [])) (append-nil xs) found
      by (inr deep) = absurd (omega (arith, deep.0))

  pub read_sentence : (a : A) (xs : List Lexeme) → p xs ≡ Ok (a, []) → L d a xs
  read_sentence a xs found =
      let w : Accepted (L d) p xs a [] = subst (λ o. Justified (L d) (L (suc d)) p xs o) found (law.justified xs) in
      subst (λ z. L d a z) (sym (w.split ∙ append-nil w.used)) w.spelled

abbrev read_as : {A : Type 0} → A → List Lexeme → Outcome A
read_as a xs = Ok (a, xs)

ended_read : {A : Type 0} (b : A) (xs : List Lexeme) (a : A) → ended b xs ≡ Some a → read_as b xs ≡ read_as a []
ended_read b [] a e = let same : b ≡ a = cc in ap (λ found. read_as found []) same
ended_read b (x ∷ xs) a e = absurd cc

pub whole_read : {A : Type 0} (o : Outcome A) (a : A) → whole o ≡ Some a → o ≡ Ok (a, [])
whole_read (Ok found) a e = ended_read found.0 found.1 a e
whole_read (Err fault) a e = absurd cc
