use Rattle.std.proofs.Common.{◌≡◌, ◌+◌, ◌++◌, drop}
use Rattle.ct_bind.specs.Writes.{targets_from}
use Rattle.ct_bind.proofs.writes.all_targets.Given as goal

abbrev pub invariant-loop-column : goal.invariant-loop-column
invariant-loop-column l = (l.made ++ targets_from l.id (drop l.column-index l.columns) ≡ targets_from 1 l.columns) × (l.id ≡ l.column-index + 1)
