use Rattle.std.proofs.Common.{◌<◌, take}
use Rattle.std.specs.List.{All}
use Rattle.ct_locks.specs.Holdings.{Holding}
use Rattle.ct_locks.proofs.sessions.place_of.Given as goal

abbrev pub invariant-loop-place : goal.invariant-loop-place
invariant-loop-place l = All (λ (held : Holding). held.session < l.session) (take l.place l.sessions)
