use Rattle.std.proofs.Common.{take}
use Rattle.ct_source.specs.Indexed.{AreAsWide}
use Rattle.ct_source.specs.Rows.{lent}
use Rattle.ct_source.proofs.index.width_of.Given as goal

abbrev pub invariant-loop-row : goal.invariant-loop-row
invariant-loop-row l = AreAsWide (lent (take l.row-index l.rows)) l.width
