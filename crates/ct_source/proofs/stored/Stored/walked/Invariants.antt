use Rattle.std.proofs.Common.{◌≡◌, ◌++◌, filter}
use Rattle.ct_source.specs.Cells.{has_value}
use Rattle.ct_source.specs.Rows.{lent, rows_of}
use Rattle.ct_source.proofs.stored.Stored.walked.Given as goal

abbrev pub invariant-loop-pair : goal.invariant-loop-pair
invariant-loop-pair l = lent l.made ++ filter (has_value l.at l.value) (rows_of l.pair-iterator) ≡ filter (has_value l.at l.value) (rows_of l.initial.pair-iterator)
