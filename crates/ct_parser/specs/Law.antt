-- The laws of the readers, and of what is answered.
use Rattle.std.specs.Prelude.{◌≡◌, ◌≢◌, ℕ, List, Result, Err}
use Rattle.ct_types.specs.declared.stmt.Stmt.{Stmt}
use Rattle.ct_types.specs.declared.refusal.Refusal.{Refusal}
use Rattle.ct_types.specs.declared.refusal.Refusal.TheVariants as refusal
use Rattle.ct_lexer.specs.declared.token.Token.{Token}
use Rattle.ct_grammar.specs.Lexemes.{Lexeme}
use Rattle.ct_parser.specs.Exact.{Answer, Parsed, most}
use Rattle.ct_parser.specs.ReadStmt.{sentence}

-- the reader of statements answers any lexemes as the grammar says
abbrev pub ReadsExactly : Type 0
ReadsExactly = (all : List Lexeme) → Answer most all (sentence most all)

-- apart from want of memory, the tokens of a text have one answer
abbrev pub AnswersOnce : Type 0
AnswersOnce = (text : List ℕ) (tokens : List Token) (one other : Result Stmt Refusal) → one ≢ Err refusal.Memory → other ≢ Err refusal.Memory
    → Parsed text tokens one → Parsed text tokens other → one ≡ other
