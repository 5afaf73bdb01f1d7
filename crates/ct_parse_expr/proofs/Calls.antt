-- Functions: a word, and what goes one level deeper behind its bracket. The words are names too.
use Rattle.std.proofs.Common.{◌≡◌, ℕ, zero, suc, inr, true, false, List, [], ◌∷◌, ◌++◌, Err, refl, ap, ◌∙◌}
use Rattle.ct_grammar.specs.declared.fault.Fault.TheVariants.{Syntax}
use Rattle.ct_grammar.specs.Kinds.{Set, has, apart, within}
use Rattle.ct_grammar.specs.Lexemes.{Lexeme, sees, matches}
use Rattle.ct_grammar.specs.Rules.{token, ◌and◌, ◌or◌, ◌of◌, below}
use Rattle.ct_grammar.specs.Reading.{Reader, and_then, ◌>>=◌, pure, expect, both, making, ahead}
use Rattle.ct_grammar.proofs.FirstSets.{NotNext}
use Rattle.ct_grammar.proofs.Outcomes.{Prefix, Opening, ReadsRule}
use Rattle.ct_grammar.proofs.Sequences.{expect_takes, expect_misses, law_weaken}
use Rattle.ct_grammar.proofs.Levels.{NextLevel}
use Rattle.ct_grammar.proofs.Lookahead.{ReachesEnd, law_ahead, prefix_reaches_end}
use Rattle.ct_grammar.proofs.LeadingTokens.{traverses_two, first_unmatched}
use Rattle.ct_grammar.proofs.Calls.{Call}
use Rattle.ct_grammar.proofs.Fronts.{law_call}

pub shape_below : {A : Type 0} {L U : A → List Lexeme → Type 0} {s : Set} (n : ℕ) → Opening L U s false → Opening (below n L) (below (suc n) U) s false
shape_below zero w = record { begins = λ a ts h. absurd h; wider = λ a ts h. absurd h }
shape_below (suc n) w = w

none_left : (r : Set) → expect r [] ≡ Err (Syntax 0)
unfolding sees
none_left r = expect_misses r [] refl

plain_through : {A B : Type 0} (m : Lexeme × (Lexeme × B) → A) (s r : Set) (p : Reader B) (t : Lexeme) → has s t.kind ≡ true → ReachesEnd (making m (both (expect s) (both (expect r) p))) (t ∷ [])
plain_through m s r p t h = inr (
    ap (λ o. and_then (and_then o (λ a. both (expect r) p >>= (λ b. pure (a, b)))) (λ x. pure (m x))) (expect_takes s t [] h)
    ∙ ap (λ o. and_then (and_then (and_then o (λ a. p >>= (λ b. pure (a, b)))) (λ b. pure (t, b))) (λ x. pure (m x))) (none_left r))

plain_match : {A B : Type 0} (m : Lexeme × (Lexeme × B) → A) (s k : Set) (M : ℕ → B → List Lexeme → Type 0) (n : ℕ) (a : A) (ts rest : List Lexeme) → (m of Call s k M n) a ts → matches (s ∷ k ∷ []) (ts ++ rest) ≡ true
unfolding matches
plain_match m s k M n a ts rest h =
    let j = h.spelled in
    rw (j.cut, j.first.one, j.second.cut, j.second.first.one, j.first.kind, j.second.first.kind) refl

-- a call begins with its word, so other words are not met
pub call_misses : {A B C D : Type 0} (m : A × (B × C) → D) (f : Lexeme → A) (g : Lexeme → B) (s k r : Set) (M : C → List Lexeme → Type 0) (a : D) (ts rest : List Lexeme)
    → apart r s ≡ true → (m of ((f of token s) and (g of token k) and M)) a ts → matches (r ∷ k ∷ []) (ts ++ rest) ≡ false
call_misses m f g s k r M a ts rest clear h =
    let j = h.spelled in
    first_unmatched r k s ts rest clear (rw (j.cut, j.first.spelled.one) j.first.spelled.kind)

-- a call, or what else may begin with its word
pub law_call_or : {A B C D : Type 0} (m : A × (B × C) → D) (f : Lexeme → A) (g : Lexeme → B) (s k : Set) (M : ℕ → C → List Lexeme → Type 0) (c : ℕ) (q : Reader C) (r : Set) (L : ℕ → D → List Lexeme → Type 0) (p : Reader D) (t goes : Set)
    → ((n : ℕ) → Opening (M n) (M (suc n)) r false) → ((b : C) (ts : List Lexeme) → M 0 b ts → ⊥) → ((n : ℕ) → Prefix (M (suc n)) []) → NextLevel M c q r []
    → ((n : ℕ) (x : Lexeme) → has s x.kind ≡ true → Prefix (L n) (x ∷ [])) → Prefix (token k) []
    → ((n : ℕ) (a : D) (ts rest : List Lexeme) → L n a ts → NotNext goes rest → matches (s ∷ k ∷ []) (ts ++ rest) ≡ false)
    → within (goes ++ goes) goes ≡ true → ReadsRule L c p t false goes
    → ReadsRule (λ n. (m of ((f of token s) and (g of token k) and M n)) or L n) c (ahead (s ∷ k ∷ []) (making m (both (making f (expect s)) (both (making g (expect k)) q))) p) (s ++ t) false goes
law_call_or m f g s k M c q r L p t goes shape none some step alone bracket misses fits rest =
    law_weaken goes fits (law_ahead (λ n. m of ((f of token s) and (g of token k) and M n)) L c (s ∷ k ∷ []) (making m (both (making f (expect s)) (both (making g (expect k)) q))) p s t [] goes goes misses
    (traverses_two s k p (λ x h. prefix_reaches_end L c p _ _ _ rest (x ∷ []) (alone c x h)))
    (law_call m f g s k M c q r [] L shape none some step (alone c) bracket
    (traverses_two s k _ (λ x h. plain_through (λ p. m (f p.0, (g p.1.0, p.1.1))) s k q x h))
    (λ n a ts rest h. plain_match (λ p. m (f p.0, (g p.1.0, p.1.1))) s k M n a ts rest h))
    rest)
