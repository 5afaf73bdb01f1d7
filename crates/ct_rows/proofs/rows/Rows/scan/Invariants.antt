use Rattle.std.proofs.Common.{◌≡◌, ◌++◌}
use Rattle.ct_rows.proofs.rows.Rows.scan.Given as goal

abbrev pub invariant-loop-row : goal.invariant-loop-row
invariant-loop-row l = l.made ++ l.row-iterator ≡ l.initial.row-iterator
