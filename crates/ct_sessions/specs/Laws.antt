-- What sessions ask of the machine that they are the sessions of. This project's own.
use Rattle.std.specs.Prelude.{◌≡◌, ℕ}
use Rattle.ct_state.specs.Machine.{Machine}
use Rattle.ct_sessions.specs.Holds.{Holds}
use Rattle.ct_sessions.specs.Seats.{SessionsState}

-- they are the sessions of each machine with the same first database, entries and sessions, whatever its time and next number
abbrev pub HoldsForAlike : Type 0
HoldsForAlike = (sessions : SessionsState) (m other : Machine) → m.first ≡ other.first → m.past ≡ other.past → ((number : ℕ) → m.sessions number ≡ other.sessions number)
    → Holds sessions m → Holds sessions other
