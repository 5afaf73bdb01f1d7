use Rattle.std.proofs.Common.{◌≡◌, take, Ok}
use Rattle.ct_write.specs.Rows.{updated}
use Rattle.ct_types.specs.Answers.{each}
use Rattle.ct_source.specs.Rows.{lent}
use Rattle.ct_write.proofs.changes.update_all.Given as goal

abbrev pub invariant-loop-before : goal.invariant-loop-before
invariant-loop-before g l = each (updated (record { env = l.env; versions = g.L.Versions.row_of l.versions }) l.schema l.sets) (lent (take l.before-index l.rows)) ≡ Ok l.changes
