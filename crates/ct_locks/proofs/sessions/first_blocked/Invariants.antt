use Rattle.std.proofs.Common.{take}
use Rattle.std.specs.List.{All}
use Rattle.ct_locks.specs.Holders.{IsFree}
use Rattle.ct_locks.specs.Holdings.{all_locks}
use Rattle.ct_locks.proofs.sessions.first_blocked.Given as goal

abbrev pub invariant-loop-place : goal.invariant-loop-place
invariant-loop-place l = All (IsFree (all_locks l.sessions) l.session l.table) (take l.place l.keys)
