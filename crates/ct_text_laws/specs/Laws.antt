-- The law that the text literals of what is read from a text of code points are of code points.
use Rattle.std.specs.Prelude.{ℕ, List, Ok}
use Rattle.std.specs.Str.{IsUtf8}
use Rattle.ct_types.specs.declared.stmt.Stmt.{Stmt}
use Rattle.ct_lexer.specs.declared.token.Token.{Token}
use Rattle.ct_lexer.specs.Cutting.{IsCut}
use Rattle.ct_parser.specs.Exact.{Parsed}
use Rattle.ct_value_laws.specs.Texts.{GivesCodePoints}

-- those of the values that the tree of a text's tokens writes, or gives a variable
abbrev pub ParsedAreOfCodePoints : Type 0
ParsedAreOfCodePoints = (text : List ℕ) (tokens : List Token) (tree : Stmt) → IsUtf8 text → IsCut text tokens → Parsed text tokens (Ok tree) → GivesCodePoints tree
