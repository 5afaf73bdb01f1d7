use Rattle.std.proofs.Common.{◌≡◌, map, take}
use Rattle.ct_machine.specs.Reads.{shown}
use Rattle.ct_core.proofs.changes.show_changes.Given as goal

abbrev pub invariant-loop-row : goal.invariant-loop-row
invariant-loop-row l = l.made ≡ map shown (take l.row-index l.rows)
