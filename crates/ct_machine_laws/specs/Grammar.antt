-- The law that a created table and its columns have names, and that a SET list is not empty, in what the grammar reads.
use Rattle.std.specs.Prelude.{ℕ, List, Ok}
use Rattle.ct_types.specs.declared.stmt.Stmt.{Stmt}
use Rattle.ct_lexer.specs.declared.token.Token.{Token}
use Rattle.ct_lexer.specs.Cutting.{IsCut}
use Rattle.ct_parser.specs.Exact.{Parsed}
use Rattle.ct_machine_laws.specs.Spelled.{IsSpelled}

-- the tree of a text's tokens is spelled so
abbrev pub ParsedAreSpelled : Type 0
ParsedAreSpelled = (text : List ℕ) (tokens : List Token) (tree : Stmt) → IsCut text tokens → Parsed text tokens (Ok tree) → IsSpelled tree
