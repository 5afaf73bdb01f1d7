use Rattle.std.proofs.Common.{◌≡◌, take, filter}
use Rattle.ct_source.specs.Cells.{has_value}
use Rattle.ct_source.specs.Rows.{lent}
use Rattle.ct_source.proofs.lending.lent_with.Given as goal

abbrev pub invariant-loop-row : goal.invariant-loop-row
invariant-loop-row l = lent l.made ≡ filter (has_value l.at l.value) (lent (take l.row-index l.rows))
