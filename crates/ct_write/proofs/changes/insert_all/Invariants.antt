use Rattle.std.proofs.Common.{◌≡◌, take, Ok}
use Rattle.ct_write.specs.Rows.{inserted}
use Rattle.ct_types.specs.Answers.{each}
use Rattle.ct_write.proofs.changes.insert_all.Given as goal

abbrev pub invariant-loop-tuple : goal.invariant-loop-tuple
invariant-loop-tuple g l = each (inserted (record { env = l.env; versions = g.L.Versions.row_of l.versions }) l.schema l.columns) (take l.tuple-index l.tuples) ≡ Ok l.changes
