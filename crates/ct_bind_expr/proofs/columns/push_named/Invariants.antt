use Rattle.std.proofs.Common.{◌≡◌, ◌++◌, drop}
use Rattle.ct_bind_expr.specs.Places.{named}
use Rattle.ct_bind_expr.proofs.columns.push_named.Given as goal

abbrev pub invariant-loop-column : goal.invariant-loop-column
invariant-loop-column l = l.found ++ named l.name l.place (drop l.column-index l.columns) ≡ l.initial.found ++ named l.name l.at l.columns
