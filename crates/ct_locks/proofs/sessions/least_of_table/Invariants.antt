use Rattle.std.proofs.Common.{◌≡◌, false, take}
use Rattle.std.specs.List.{list_any}
use Rattle.ct_locks.specs.Holdings.{blocks, has_table}
use Rattle.ct_locks.proofs.sessions.least_of_table.Given as goal

abbrev pub invariant-loop-held : goal.invariant-loop-held
invariant-loop-held l = list_any (blocks l.session (has_table l.table)) (take l.held-index l.sessions) ≡ false
