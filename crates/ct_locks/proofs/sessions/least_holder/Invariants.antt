use Rattle.std.proofs.Common.{◌≡◌, false, take}
use Rattle.std.specs.List.{list_any}
use Rattle.ct_locks.specs.Holdings.{blocks, is_on}
use Rattle.ct_locks.proofs.sessions.least_holder.Given as goal

abbrev pub invariant-loop-held : goal.invariant-loop-held
invariant-loop-held l = list_any (blocks l.session (list_any (is_on l.table l.key))) (take l.held-index l.sessions) ≡ false
