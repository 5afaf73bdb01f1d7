use Rattle.std.proofs.Common.{◌≡◌, ◌++◌}
use Rattle.ct_source.specs.Rows.{lent, rows_of}
use Rattle.ct_source.proofs.stored.Stored.rows.Given as goal

abbrev pub invariant-loop-pair : goal.invariant-loop-pair
invariant-loop-pair l = lent l.made ++ rows_of l.pair-iterator ≡ rows_of l.initial.pair-iterator
