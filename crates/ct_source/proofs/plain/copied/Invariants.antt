use Rattle.std.proofs.Common.{◌≡◌, take}
use Rattle.ct_source.specs.Rows.{lent}
use Rattle.ct_source.proofs.plain.copied.Given as goal

abbrev pub invariant-loop-row : goal.invariant-loop-row
invariant-loop-row l = l.made ≡ lent (take l.row-index l.rows)
