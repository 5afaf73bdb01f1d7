use Rattle.std.proofs.Common.{◌≡◌, take, Ok}
use Rattle.ct_expr.specs.Meaning.{value}
use Rattle.ct_types.specs.Answers.{each}
use Rattle.ct_write.proofs.values.tuple_values.Given as goal

abbrev pub invariant-loop-expr : goal.invariant-loop-expr
invariant-loop-expr g l = each (value (record { row = l.row; env = l.env; versions = g.L.Versions.row_of l.versions })) (take l.expr-index l.tuple) ≡ Ok l.values
