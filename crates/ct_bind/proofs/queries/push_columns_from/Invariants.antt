use Rattle.std.proofs.Common.{◌≡◌, ◌++◌, drop}
use Rattle.ct_bind.specs.Queries.{columns_from}
use Rattle.ct_bind.proofs.queries.push_columns_from.Given as goal

abbrev pub invariant-loop-column : goal.invariant-loop-column
invariant-loop-column l = l.made ++ columns_from l.place (drop l.column-index l.columns) ≡ l.initial.made ++ columns_from l.at l.columns
