use Rattle.std.proofs.Common.{◌≡◌, take, Ok}
use Rattle.ct_query.specs.Answer.{values_on}
use Rattle.ct_query.proofs.query.values.Given as goal

abbrev pub invariant-loop-expr : goal.invariant-loop-expr
invariant-loop-expr g l = values_on (record { env = l.env; versions = g.L.Versions.row_of l.versions }) l.row (take l.expr-index l.exprs) ≡ Ok l.made
