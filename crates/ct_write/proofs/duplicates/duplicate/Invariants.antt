use Rattle.std.proofs.Common.{◌≡◌, [], take, drop}
use Rattle.ct_write.specs.Duplicates.{duplicate_from}
use Rattle.ct_write.proofs.duplicates.duplicate.Given as goal

abbrev pub invariant-loop-place : goal.invariant-loop-place
invariant-loop-place l = duplicate_from l.table.schema l.table.rows [] l.writes ≡ duplicate_from l.table.schema l.table.rows (take l.place l.writes) (drop l.place l.writes)
