-- How a table's name is read.
use Rattle.std.specs.Prelude.{ℕ, List, [], ◌∷◌}
use Rattle.ct_types.specs.declared.expr.ObjectName.{ObjectName}
use Rattle.ct_grammar.specs.declared.kind.Kind.TheVariants as k
use Rattle.ct_grammar.specs.Reading.{Reader, both, making, option, need, name}

unfoldable pub second_part : Reader (List ℕ)
second_part = making (λ p. p.1) (both (need k.Dot) name)

unfoldable pub table_name : Reader ObjectName
table_name = making (λ p. record { first = p.0; second = p.1 }) (both name (option (k.Dot ∷ []) second_part))
