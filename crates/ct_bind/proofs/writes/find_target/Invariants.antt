use Rattle.std.proofs.Common.{◌≡◌, ◌+◌, drop}
use Rattle.ct_bind.specs.Writes.{target_from}
use Rattle.ct_bind.proofs.writes.find_target.Given as goal

abbrev pub invariant-loop-column : goal.invariant-loop-column
invariant-loop-column l = (target_from l.name l.id (drop l.column-index l.columns) ≡ target_from l.name 1 l.columns) × (l.id ≡ l.column-index + 1)
