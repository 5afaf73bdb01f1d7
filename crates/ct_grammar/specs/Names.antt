-- The grammar of a table's name. The head comment of each rule is the rule as it is published; `[ ]` is optional.
use Rattle.std.specs.Prelude.{ℕ, List}
use Rattle.ct_types.specs.declared.expr.ObjectName.{ObjectName}
use Rattle.ct_grammar.specs.declared.kind.Kind.TheVariants as k
use Rattle.ct_grammar.specs.Rules.{Rule, ◌and◌, ◌of◌, maybe, one, name}

-- "." name
abbrev pub second_part : Rule (List ℕ)
second_part = (λ p. p.1) of (one k.Dot and name)

-- tname = name ["." name]
unfoldable pub table_name : Rule ObjectName
table_name = (λ p. record { first = p.0; second = p.1 }) of (name and maybe second_part)
