-- What calls make of the sessions. This project's own.
use Rattle.std.specs.Prelude.{◌≡◌, ℕ, ◌==◌, List, Some, if◌then◌else◌}
use Rattle.ct_types.specs.declared.entry.Write.{Write}
use Rattle.ct_session.specs.Sessions.{SessionState, pended}
use Rattle.ct_state.specs.Machine.{Machine, with_session, xdes_or}
use Rattle.ct_sessions.specs.declared.seat.Seat.{Seat}
use Rattle.ct_sessions.specs.Holds.{Holds}
use Rattle.ct_sessions.specs.Seats.{SessionsState, own_in, state_in}

-- the session of this number has this state now, each other the one that it had
abbrev pub HasState : List Seat → List Seat → ℕ → SessionState → Type 0
HasState old new number state = (other : ℕ) → state_in new other ≡ (if other == number then state else state_in old other)

-- each session has the state that it had
abbrev pub HaveStates : List Seat → List Seat → Type 0
HaveStates old new = (number : ℕ) → state_in new number ≡ state_in old number

-- each machine keeps its sessions
pub record Stays (old new : SessionsState) : Type 0 where
  pub states : HaveStates old.seats new.seats
  pub entries : new.entries ≡ old.entries
  pub holds : (m : Machine) → Holds old m → Holds new m

-- the session of a number comes to this, in each machine; what it reads as its own stays
pub record Turns (old new : SessionsState) (number : ℕ) (make : SessionState → SessionState) : Type 0 where
  pub states : HasState old.seats new.seats number (make (state_in old.seats number))
  pub owns : (other : ℕ) → own_in new.seats other ≡ own_in old.seats other
  pub entries : new.entries ≡ old.entries
  pub holds : (m : Machine) → Holds old m → Holds new (with_session m number (make (m.sessions number)))

-- a session with more writes that wait, and with a number: its own, or this one where it has none
abbrev pub waiting : ℕ → List Write → SessionState → SessionState
waiting next writes session = record (pended session writes) { xdes = Some (xdes_or next session.xdes) }
