-- Two answers to the same tokens are one.
use Rattle.std.proofs.Common.{◌≡◌, ◌≢◌, ◌⊎◌, ℕ, suc, inl, inr, List, [], ◌∷◌, ◌++◌, length, Result, Ok, Err, refl, ap, sym, ◌∙◌, subst, append-nil, append_assoc, length-append, arith}
use Rattle.ct_types.specs.declared.stmt.Stmt.{Stmt}
use Rattle.ct_types.specs.declared.refusal.Refusal.{Refusal}
use Rattle.ct_types.specs.declared.refusal.Refusal.TheVariants as refusal
use Rattle.ct_lexer.specs.declared.token.Token.{Token}
use Rattle.ct_grammar.specs.Lexemes.{Lexeme, lexemes}
use Rattle.ct_parser.specs.Statements.{statement}
use Rattle.ct_parser.specs.Exact.{Goes, Ends, Spells, WrongAt, Deeper, Parsed, most, place}

-- ---- two cuts of one list

-- the front a goes on to the front c
abbrev Further : {A : Type 0} → List A → List A → List A → List A → Type 0
Further {A} a b c d = (v : List A) × (c ≡ a ++ v) × (b ≡ v ++ d)

behind_heads : {A : Type 0} (x y : A) (a b c d : List A) → x ≡ y → Further a b c d ⊎ Further c d a b → Further (x ∷ a) b (y ∷ c) d ⊎ Further (y ∷ c) d (x ∷ a) b
behind_heads x y a b c d e (inl h) = inl (h.0, rw (e, h.1) refl, h.2)
behind_heads x y a b c d e (inr h) = inr (h.0, rw (e, h.1) refl, h.2)

two_cuts : {A : Type 0} (a b c d : List A) → a ++ b ≡ c ++ d → Further a b c d ⊎ Further c d a b
two_cuts [] b c d h = inl (c, refl, h)
two_cuts (x ∷ a) b [] d h = inr (x ∷ a, refl, sym h)
two_cuts (x ∷ a) b (y ∷ c) d h =
    let whole : x ∷ (a ++ b) ≡ y ∷ (c ++ d) = h in
    let heads : x ≡ y = cc in
    let tails : a ++ b ≡ c ++ d = cc in
    behind_heads x y a b c d heads (two_cuts a b c d tails)

-- ---- what begins a sentence

to_next : (n : ℕ) (used : List Lexeme) (x : Lexeme) (more : List Lexeme) → Goes n (used ++ x ∷ more) → Goes n (used ++ x ∷ [])
to_next n used x more h = (h.0, more ++ h.1, subst (statement n h.0) (append_assoc used (x ∷ more) h.1 ∙ sym (append_assoc used (x ∷ []) (more ++ h.1))) h.2)

whole_goes : (n : ℕ) (tree : Stmt) (all : List Lexeme) → statement n tree all → Goes n all
whole_goes n tree all l = (tree, [], subst (statement n tree) (sym (append-nil all)) l)

stopped : (used rest : List Lexeme) (x : Lexeme) (more later : List Lexeme) (m : ℕ) → rest ≡ x ∷ later → Ends used rest → Goes m (used ++ x ∷ more) → ⊥
stopped used rest x more later m e ends h =
    let stop : (n : ℕ) → Goes n (used ++ x ∷ []) → ⊥ = subst (Ends used) e ends in
    stop m (to_next m used x more h)

goes_no_further : (used rest more later : List Lexeme) (m : ℕ) → rest ≡ more ++ later → Ends used rest → Goes m (used ++ more) → more ≡ []
goes_no_further used rest [] later m e ends h = refl
goes_no_further used rest (x ∷ more) later m e ends h = absurd (stopped used rest x more (more ++ later) m e ends h)

-- ---- the answers exclude each other

same_front : (used rest front back : List Lexeme) (m : ℕ) → Ends used rest → Goes m front → Further used rest front back → front ≡ used
same_front used rest front back m ends goes f =
    f.1 ∙ (ap (λ v. used ++ v) (goes_no_further used rest f.0 back m f.2 ends (subst (Goes m) f.1 goes)) ∙ append-nil used)

same_used : (all u r v s : List Lexeme) (m : ℕ) → all ≡ u ++ r → all ≡ v ++ s → Ends u r → Ends v s → Goes m u → Goes m v → Further u r v s ⊎ Further v s u r → u ≡ v
same_used all u r v s m cut cut₂ ends ends₂ goes goes₂ (inl f) = sym (same_front u r v s m ends goes₂ f)
same_used all u r v s m cut cut₂ ends ends₂ goes goes₂ (inr f) = same_front v s u r m ends₂ goes f

one_place : (text : List ℕ) (tokens : List Token) (a b : ℕ) → WrongAt text tokens a → WrongAt text tokens b → a ≡ b
one_place text tokens a b w z =
    let same : w.used ≡ z.used = same_used (lexemes text tokens) w.used w.rest z.used z.rest most w.cut z.cut w.ends z.ends w.goes z.goes (two_cuts w.used w.rest z.used z.rest (sym w.cut ∙ z.cut)) in
    w.at_is ∙ (ap (λ u. place (length text) tokens (length u)) same ∙ sym z.at_is)

wrong_is_none : (used rest : List Lexeme) (n : ℕ) (tree : Stmt) → Ends used rest → statement n tree (used ++ rest) → ⊥
wrong_is_none used [] n tree ends l = ends n tree (subst (statement n tree) (append-nil used) l)
wrong_is_none used (x ∷ rest) n tree ends l = ends n (to_next n used x rest (whole_goes n tree (used ++ x ∷ rest) l))

deeper_is_none : (all : List Lexeme) (tree : Stmt) → Deeper most all → statement most tree all → ⊥
deeper_is_none all tree d l = d.ends (to_next most d.used d.next d.rest (whole_goes most tree (d.used ++ d.next ∷ d.rest) (subst (statement most tree) d.cut l)))

-- a sentence of any depth has no lexeme at which it is wrong, and goes deeper at none that is wrong
deeper_not_before : (used rest front : List Lexeme) (x : Lexeme) (back : List Lexeme) → Ends used rest → Goes (suc most) (front ++ x ∷ []) → Further used rest front (x ∷ back) → ⊥
deeper_not_before used rest front x back ends deeper f =
    let goes : Goes (suc most) (used ++ (f.0 ++ x ∷ [])) = subst (Goes (suc most)) (ap (λ l. l ++ x ∷ []) f.1 ∙ append_assoc used f.0 (x ∷ [])) deeper in
    let none : f.0 ++ x ∷ [] ≡ [] = goes_no_further used rest (f.0 ++ x ∷ []) back (suc most) (f.2 ∙ sym (append_assoc f.0 (x ∷ []) back)) ends goes in
    absurd (omega (arith, ap length none, length-append f.0 (x ∷ [])))

deeper_not_behind : (used rest front : List Lexeme) (x : Lexeme) (back more : List Lexeme) → Ends used rest → Goes most used → (Goes most (front ++ x ∷ []) → ⊥) → Goes (suc most) (front ++ x ∷ [])
    → used ≡ front ++ more → x ∷ back ≡ more ++ rest → ⊥
deeper_not_behind used rest front x back [] ends goes none deeper e h =
    let same : used ≡ front = e ∙ append-nil front in
    stopped used rest x [] back (suc most) (sym h) ends (subst (λ u. Goes (suc most) (u ++ x ∷ [])) (sym same) deeper)
deeper_not_behind used rest front x back (y ∷ more) ends goes none deeper e h =
    let whole : x ∷ back ≡ y ∷ (more ++ rest) = h in
    let heads : y ≡ x = cc in
    none (to_next most front x more (subst (Goes most) (e ∙ ap (λ z. front ++ z ∷ more) heads) goes))

wrong_or_deeper : (used rest : List Lexeme) (all : List Lexeme) (d : Deeper most all) → Ends used rest → Goes most used → Further used rest d.used (d.next ∷ d.rest) ⊎ Further d.used (d.next ∷ d.rest) used rest → ⊥
wrong_or_deeper used rest all d ends goes (inl f) = deeper_not_before used rest d.used d.next d.rest ends d.deeper f
wrong_or_deeper used rest all d ends goes (inr f) = deeper_not_behind used rest d.used d.next d.rest f.0 ends goes d.ends d.deeper f.1 f.2

not_both : (text : List ℕ) (tokens : List Token) (at : ℕ) → WrongAt text tokens at → Deeper most (lexemes text tokens) → ⊥
not_both text tokens at w d = wrong_or_deeper w.used w.rest (lexemes text tokens) d w.ends w.goes (two_cuts w.used w.rest d.used (d.next ∷ d.rest) (sym w.cut ∙ d.cut))

wrong_or_spelled : (text : List ℕ) (tokens : List Token) (at : ℕ) (tree : Stmt) → WrongAt text tokens at → Spells most (lexemes text tokens) tree → ⊥
wrong_or_spelled text tokens at tree w l = wrong_is_none w.used w.rest most tree w.ends (subst (statement most tree) w.cut l.spelled)

-- ---- what an answer says, by its form

abbrev Whole : List ℕ → List Token → Result Stmt Refusal → Type 0
Whole text tokens r = (tree : Stmt) × (r ≡ Ok tree) × Spells most (lexemes text tokens) tree

abbrev Faulty : List ℕ → List Token → Result Stmt Refusal → Type 0
Faulty text tokens r = (at : ℕ) × (r ≡ Err (refusal.Syntax at)) × WrongAt text tokens at

abbrev Deep : List ℕ → List Token → Result Stmt Refusal → Type 0
Deep text tokens r = (r ≡ Err (refusal.TooMany most)) × Deeper most (lexemes text tokens)

abbrev Form : List ℕ → List Token → Result Stmt Refusal → Type 0
Form text tokens r = Whole text tokens r ⊎ (Faulty text tokens r ⊎ (Deep text tokens r ⊎ (r ≡ Err refusal.Memory)))

form : (text : List ℕ) (tokens : List Token) (r : Result Stmt Refusal) → Parsed text tokens r → Form text tokens r
form text tokens (Ok tree) h = inl (tree, refl, h)
form text tokens (Err (refusal.Syntax at)) h = inr (inl (at, refl, h))
form text tokens (Err (refusal.TooMany limit)) h = inr (inr (inl (ap (λ n. Err (refusal.TooMany n)) h.0, h.1)))
form text tokens (Err refusal.Memory) h = inr (inr (inr refl))
form text tokens (Err e) h = absurd h

module _ (text : List ℕ) (tokens : List Token) (one other : Result Stmt Refusal) (some : one ≢ Err refusal.Memory) (some₂ : other ≢ Err refusal.Memory) where
  once : Form text tokens one → Form text tokens other → one ≡ other
  once (inl p) (inl q) = p.1 ∙ (ap (λ tree. Ok tree) (q.2.only most p.0 p.2.spelled) ∙ sym q.1)
  once (inl p) (inr (inl q)) = absurd (wrong_or_spelled text tokens q.0 p.0 q.2 p.2)
  once (inl p) (inr (inr (inl q))) = absurd (deeper_is_none (lexemes text tokens) p.0 q.1 p.2.spelled)
  once (inr (inl p)) (inl q) = absurd (wrong_or_spelled text tokens p.0 q.0 p.2 q.2)
  once (inr (inl p)) (inr (inl q)) = p.1 ∙ (ap (λ at. Err (refusal.Syntax at)) (one_place text tokens p.0 q.0 p.2 q.2) ∙ sym q.1)
  once (inr (inl p)) (inr (inr (inl q))) = absurd (not_both text tokens p.0 p.2 q.1)
  once (inr (inr (inl p))) (inl q) = absurd (deeper_is_none (lexemes text tokens) q.0 p.1 q.2.spelled)
  once (inr (inr (inl p))) (inr (inl q)) = absurd (not_both text tokens q.0 q.2 p.1)
  once (inr (inr (inl p))) (inr (inr (inl q))) = p.0 ∙ sym q.0
  once (inr (inr (inr p))) q = absurd (some p)
  once p (inr (inr (inr q))) = absurd (some₂ q)

pub answers_once : (text : List ℕ) (tokens : List Token) (one other : Result Stmt Refusal) → one ≢ Err refusal.Memory → other ≢ Err refusal.Memory
    → Parsed text tokens one → Parsed text tokens other → one ≡ other
answers_once text tokens one other some some₂ h g = once text tokens one other some some₂ (form text tokens one h) (form text tokens other g)
