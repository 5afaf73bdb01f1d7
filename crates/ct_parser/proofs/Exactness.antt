-- The reader of statements answers what the grammar says.
use Rattle.std.proofs.Common.{◌≡◌, ℕ, zero, suc, ◌-◌, ◌<◌, ◌≤◌, inl, inr, Bool, false, List, [], ◌∷◌, ◌++◌, length, get_or, Result, Ok, Err, refl, ap, sym, ◌∙◌, subst, append-nil, append_assoc, length-append, arith}
use Rattle.ct_types.specs.declared.stmt.Stmt.{Stmt}
use Rattle.ct_lexer.specs.declared.token.Token.{Token}
use Rattle.ct_grammar.specs.declared.fault.Fault.{Fault}
use Rattle.ct_grammar.specs.declared.fault.Fault.TheVariants.{Memory, Syntax, TooDeep}
use Rattle.ct_grammar.specs.Kinds.{Set}
use Rattle.ct_grammar.specs.Lexemes.{Lexeme, lexemes}
use Rattle.ct_grammar.specs.Reading.{Outcome, Gives}
use Rattle.ct_grammar.proofs.FirstSets.{SameNext, end_not_next}
use Rattle.ct_grammar.proofs.Outcomes.{Prefix, EmptyOrPrefix, Finds, Justified, Accepted, ReadsRule}
use Rattle.ct_grammar.proofs.Spans.{length_lexemes}
use Rattle.ct_parser.specs.Statements.{statement}
use Rattle.ct_parser.specs.ReadStmt as p
use Rattle.ct_parser.specs.Exact.{Goes, Ends, Spells, Wrong, WrongAt, Deeper, Answer, Parsed, most, place}
use Rattle.ct_parser.proofs.SelectLaws.{law_statement, some_statement, statement_starts, statement_goes}

goes_of : (n : ℕ) (used : List Lexeme) → Prefix (statement n) used → Goes n used
goes_of n used v = (v.value, v.further, v.spelled)

near_goes : (n : ℕ) (used : List Lexeme) → Prefix (statement n) [] → EmptyOrPrefix (statement n) used → Goes n used
near_goes n used some (inl e) = (some.value, some.further, rw e some.spelled)
near_goes n used some (inr v) = goes_of n used v

-- a sentence is read, or is too deep
not_refused : (d n m : ℕ) (o : Outcome Stmt) (tree : Stmt) → Finds d n o tree [] → o ≡ Err (Syntax m) → ⊥
not_refused d n m o tree (inl h) e = (let f : Ok (tree, []) ≡ Err (Syntax m) = sym h ∙ e in cc)
not_refused d n m o tree (inr h) e = (let f : Err TooDeep ≡ Err (Syntax m) = sym (h.1) ∙ e in cc)

abbrev rest_of : Outcome Stmt → List Lexeme
rest_of (Ok x) = x.1
rest_of (Err e) = []

not_longer : (d n : ℕ) (o : Outcome Stmt) (tree other : Stmt) (t : Lexeme) (rest : List Lexeme) → Finds d n o tree [] → o ≡ Ok (other, t ∷ rest) → ⊥
not_longer d n o tree other t rest (inl h) e = (let f : [] ≡ t ∷ rest = ap rest_of (sym h ∙ e) in cc)
not_longer d n o tree other t rest (inr h) e = (let f : Err TooDeep ≡ Ok (other, t ∷ rest) = sym (h.1) ∙ e in cc)

not_deep : (d : ℕ) (o : Outcome Stmt) (tree : Stmt) → Finds d d o tree [] → o ≡ Err TooDeep → ⊥
not_deep d o tree (inl h) e = (let f : Ok (tree, []) ≡ Err TooDeep = sym h ∙ e in cc)
not_deep d o tree (inr h) e = absurd (omega (arith, h.0))

abbrev tree_of : Stmt → Outcome Stmt → Stmt
tree_of other (Ok x) = x.0
tree_of other (Err e) = other

same_tree : (d n : ℕ) (o : Outcome Stmt) (other tree : Stmt) → Finds d n o other [] → o ≡ Ok (tree, []) → other ≡ tree
same_tree d n o other tree (inl h) e = ap (tree_of tree) (sym h ∙ e)
same_tree d n o other tree (inr h) e = (let f : Err TooDeep ≡ Ok (tree, []) = sym (h.1) ∙ e in cc)

module _ (some : (n : ℕ) → Prefix (statement n) []) (d : ℕ) (s : Set) (e : Bool) (goes : Set) (w : ReadsRule (λ n. statement n) d (p.statement d) s e goes) where
  reads : (n : ℕ) (tree : Stmt) (ts : List Lexeme) → statement n tree ts → Finds d n (p.statement d ts) tree []
  reads n tree ts l = subst (λ z. Finds d n (p.statement d z) tree []) (append-nil ts) (w.complete n tree ts [] l (end_not_next goes))

  ends : (used rest : List Lexeme) → ((other : List Lexeme) → SameNext rest other → p.statement d (used ++ other) ≡ Err (Syntax (length other))) → Ends used rest
  ends used [] local = λ n tree l. not_refused d n 0 (p.statement d used) tree (reads n tree used l) (ap (p.statement d) (sym (append-nil used)) ∙ local [] tt)
  ends used (t ∷ rest) local = λ n v. not_refused d n (length (t ∷ v.1)) (p.statement d ((used ++ t ∷ []) ++ v.1)) v.0 (reads n v.0 ((used ++ t ∷ []) ++ v.1) v.2)
      (ap (p.statement d) (append_assoc used (t ∷ []) v.1) ∙ local (t ∷ v.1) refl)

  exact_ok : (ts : List Lexeme) (tree : Stmt) (rest : List Lexeme) → p.statement d ts ≡ Ok (tree, rest) → Accepted (statement d) (p.statement d) ts tree rest → Answer d ts (p.ended tree rest)
  exact_ok ts tree [] is v = record { spelled = rw (v.split, append-nil v.used) v.spelled; only = λ n other l. same_tree d n (p.statement d ts) other tree (reads n other ts l) is }
  exact_ok ts tree (t ∷ rest) is v = record {
    used = v.used;
    rest = t ∷ rest;
    cut = v.split;
    left_is = refl;
    goes = (tree, [], rw (append-nil v.used) v.spelled);
    ends = λ n h. not_longer d n (p.statement d ((v.used ++ t ∷ []) ++ h.1)) h.0 tree t h.1 (reads n h.0 ((v.used ++ t ∷ []) ++ h.1) h.2) (ap (p.statement d) (append_assoc v.used (t ∷ []) h.1) ∙ v.stable (t ∷ h.1) refl);
  }

  exact_of : (ts : List Lexeme) (o : Outcome Stmt) → p.statement d ts ≡ o → Justified (statement d) (statement (suc d)) (p.statement d) ts o → Answer d ts (p.whole_of o)
  exact_of ts (Ok x) is v = exact_ok ts x.0 x.1 is v
  exact_of ts (Err Memory) is v = absurd v
  exact_of ts (Err (Syntax n)) is v = record { used = v.used; rest = v.rest; cut = v.split; left_is = v.count_is; goes = near_goes d v.used (some d) v.begun; ends = ends v.used v.rest v.stable }
  exact_of ts (Err TooDeep) is v = record {
    used = v.used;
    next = v.next;
    rest = v.rest;
    cut = v.split;
    goes = near_goes d v.used (some d) v.begun;
    deeper = goes_of (suc d) (v.used ++ v.next ∷ []) v.deeper;
    ends = λ h. not_deep d (p.statement d ((v.used ++ v.next ∷ []) ++ h.1)) h.0 (reads d h.0 ((v.used ++ v.next ∷ []) ++ h.1) h.2) (ap (p.statement d) (append_assoc v.used (v.next ∷ []) h.1) ∙ v.stable h.1);
  }

  exact : (ts : List Lexeme) → Answer d ts (p.sentence d ts)
  unfolding p.sentence
  exact ts = exact_of ts (p.statement d ts) refl (w.justified ts)

-- the reader of statements answers what the grammar says
pub sentence_exact : (ts : List Lexeme) → Answer most ts (p.sentence most ts)
sentence_exact ts = exact some_statement most statement_starts false statement_goes (law_statement most) ts

-- ---- the same of a text and its tokens

pub spells : (ts : List Lexeme) (tree : Stmt) → p.sentence most ts ≡ Ok tree → Spells most ts tree
spells ts tree h = subst (Answer most ts) h (sentence_exact ts)

pub deeper : (ts : List Lexeme) → p.sentence most ts ≡ Err TooDeep → Deeper most ts
deeper ts h = subst (Answer most ts) h (sentence_exact ts)

wrong : (ts : List Lexeme) (left : ℕ) → p.sentence most ts ≡ Err (Syntax left) → Wrong most ts left
wrong ts left h = subst (Answer most ts) h (sentence_exact ts)

pub wrong_at : (text : List ℕ) (tokens : List Token) (left at : ℕ) → p.sentence most (lexemes text tokens) ≡ Err (Syntax left) → at ≡ place (length text) tokens (length tokens - left) → WrongAt text tokens at
wrong_at text tokens left at h is =
    let w = wrong (lexemes text tokens) left h in
    let long : length tokens - left ≡ length w.used = omega (arith, length_lexemes text tokens, ap length w.cut, length-append w.used w.rest, w.left_is) in
    record { used = w.used; rest = w.rest; cut = w.cut; at_is = is ∙ ap (place (length text) tokens) long; goes = w.goes; ends = w.ends }

-- a reading that is answered
pub answered : (text : List ℕ) (tokens : List Token) (r : Result Stmt Fault) → Gives (p.sentence most (lexemes text tokens)) r → Parsed text tokens (p.answer text tokens r)
answered text tokens (Ok tree) h = spells (lexemes text tokens) tree h
answered text tokens (Err Memory) h = tt
answered text tokens (Err (Syntax left)) h = wrong_at text tokens left _ (h (λ e. cc)) refl
answered text tokens (Err TooDeep) h = (refl, deeper (lexemes text tokens) (h (λ e. cc)))

-- ---- places of tokens

pub place_at : (end : ℕ) (tokens : List Token) (n : ℕ) (d : Token) → n < length tokens → place end tokens n ≡ (get_or tokens n d).from
place_at end [] n d h = absurd (omega arith)
place_at end (token ∷ tokens) zero d h = refl
place_at end (token ∷ tokens) (suc n) d h = place_at end tokens n d (omega arith)

pub place_end : (end : ℕ) (tokens : List Token) (n : ℕ) → length tokens ≤ n → place end tokens n ≡ end
place_end end [] n h = refl
place_end end (token ∷ tokens) zero h = absurd (omega arith)
place_end end (token ∷ tokens) (suc n) h = place_end end tokens n (omega arith)
