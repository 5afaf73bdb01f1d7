-- What `parse` answers, said by the grammar alone.
use Rattle.std.specs.Prelude.{◌≡◌, ℕ, zero, suc, List, [], ◌∷◌, ◌++◌, length, Result, Ok, Err}
use Rattle.ct_types.specs.declared.stmt.Stmt.{Stmt}
use Rattle.ct_types.specs.declared.refusal.Refusal.{Refusal}
use Rattle.ct_types.specs.declared.refusal.Refusal.TheVariants as refusal
use Rattle.ct_lexer.specs.declared.token.Token.{Token}
use Rattle.ct_grammar.specs.declared.fault.Fault.{Fault}
use Rattle.ct_grammar.specs.declared.fault.Fault.TheVariants as fault
use Rattle.ct_grammar.specs.Lexemes.{Lexeme, lexemes}
use Rattle.ct_parser.specs.Statements.{statement}

-- a sentence with at most n levels begins so
abbrev pub Goes : ℕ → List Lexeme → Type 0
Goes n used = (tree : Stmt) × (more : List Lexeme) × statement n tree (used ++ more)

-- no sentence, however deep, begins so and with the next lexeme, or, at the end, is this
abbrev pub Ends : List Lexeme → List Lexeme → Type 0
Ends used [] = (n : ℕ) (tree : Stmt) → statement n tree used → ⊥
Ends used (x ∷ rest) = (n : ℕ) → Goes n (used ++ x ∷ []) → ⊥

-- the one tree that the lexemes spell
pub record Spells (n : ℕ) (all : List Lexeme) (tree : Stmt) : Type 0 where
  pub spelled : statement n tree all
  pub only : (m : ℕ) (other : Stmt) → statement m other all → other ≡ tree

-- the first lexeme at which no sentence goes on is told by how many there are from it on
pub record Wrong (n : ℕ) (all : List Lexeme) (left : ℕ) : Type 0 where
  pub used : List Lexeme
  pub rest : List Lexeme
  pub cut : all ≡ used ++ rest
  pub left_is : left ≡ length rest
  pub goes : Goes n used
  pub ends : Ends used rest

-- at some lexeme sentences go on, but only deeper ones
pub record Deeper (n : ℕ) (all : List Lexeme) : Type 0 where
  pub used : List Lexeme
  pub next : Lexeme
  pub rest : List Lexeme
  pub cut : all ≡ used ++ next ∷ rest
  pub goes : Goes n used
  pub deeper : Goes (suc n) (used ++ next ∷ [])
  pub ends : Goes n (used ++ next ∷ []) → ⊥

-- the answer to lexemes, where memory does not fail
abbrev pub Answer : ℕ → List Lexeme → Result Stmt Fault → Type 0
Answer n all (Ok tree) = Spells n all tree
Answer n all (Err fault.Memory) = ⊥
Answer n all (Err (fault.Syntax left)) = Wrong n all left
Answer n all (Err fault.TooDeep) = Deeper n all

-- where the token begins that stands behind so many, or the end of the text
abbrev pub place : ℕ → List Token → ℕ → ℕ
place end [] n = end
place end (token ∷ tokens) zero = token.from
place end (token ∷ tokens) (suc n) = place end tokens n

-- the levels that a statement may have
abbrev pub most : ℕ
most = 64

-- the fault is at this offset
pub record WrongAt (text : List ℕ) (tokens : List Token) (at : ℕ) : Type 0 where
  pub used : List Lexeme
  pub rest : List Lexeme
  pub cut : lexemes text tokens ≡ used ++ rest
  pub at_is : at ≡ place (length text) tokens (length used)
  pub goes : Goes most used
  pub ends : Ends used rest

abbrev pub Parsed : List ℕ → List Token → Result Stmt Refusal → Type 0
Parsed text tokens (Ok tree) = Spells most (lexemes text tokens) tree
Parsed text tokens (Err (refusal.Syntax at)) = WrongAt text tokens at
Parsed text tokens (Err (refusal.TooMany limit)) = (limit ≡ most) × Deeper most (lexemes text tokens)
Parsed text tokens (Err refusal.Memory) = Unit {0}
Parsed text tokens (Err _) = ⊥
