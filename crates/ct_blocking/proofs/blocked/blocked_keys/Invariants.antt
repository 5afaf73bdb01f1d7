use Rattle.std.proofs.Common.{◌≡◌, ℕ, drop}
use Rattle.ct_session.specs.Sessions.{SessionState}
use Rattle.ct_state.specs.Holding.{blocked_keys}
use Rattle.ct_blocking.specs.Locked.{AreLocked}
use Rattle.ct_blocking.proofs.blocked.blocked_keys.Given as goal

abbrev pub invariant-loop-write : goal.invariant-loop-write
invariant-loop-write l = (sessions : ℕ → SessionState) → AreLocked l.locks sessions
    → blocked_keys sessions l.session l.name l.writes ≡ blocked_keys sessions l.session l.name (drop l.write-index l.writes)
