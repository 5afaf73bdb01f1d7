use Rattle.std.proofs.Common.{◌≡◌, take, map}
use Rattle.ct_source.specs.Rows.{lent}
use Rattle.ct_write.specs.Rows.{deleted}
use Rattle.ct_write.proofs.changes.delete_all.Given as goal

abbrev pub invariant-loop-row : goal.invariant-loop-row
invariant-loop-row l = l.changes ≡ map (deleted l.schema) (lent (take l.row-index l.rows))
