-- The texts that are the name of a table.
use Rattle.std.specs.Prelude.{◌<◌, ◌^◌, ℕ, List, length, Option, Some, None}
use Rattle.ct_types.specs.declared.expr.ObjectName.{ObjectName}
use Rattle.ct_lexer.specs.declared.token.Token.{Token}
use Rattle.ct_lexer.specs.Cutting.{IsCut}
use Rattle.ct_grammar.specs.Lexemes.{lexemes}
use Rattle.ct_grammar.specs.Names.{table_name}

-- The text is this name of a table: its tokens are a sentence of the rule. A text of 2^32 bytes or more is none.
pub record IsTableText (text : List ℕ) (name : ObjectName) : Type 0 where
  pub short : length text < 2 ^ 32
  pub tokens : List Token
  pub cut : IsCut text tokens
  pub spelled : table_name name (lexemes text tokens)

-- the text is this name, or is none
abbrev pub Tells : List ℕ → Option ObjectName → Type 0
Tells text (Some name) = IsTableText text name
Tells text None = (name : ObjectName) → IsTableText text name → ⊥
