-- The database of its own that a session reads, and when it is up to date. This project's own.
use Rattle.std.specs.Prelude.{◌≡◌, ℕ, ◌≤◌, true, List, length, take, Option, None, Some}
use Rattle.std.specs.Option.{IsSomeAnd}
use Rattle.ct_types.specs.declared.entry.Write.{Write}
use Rattle.ct_model.specs.declared.db.Db.{Db}
use Rattle.ct_database.specs.Waiting.{AreStoredIn}
use Rattle.ct_session.specs.declared.tran.Tran.TheVariants as tran
use Rattle.ct_state.specs.Machine.{Machine, db_at}
use Rattle.ct_state.specs.Seen.{with_writes}
use Rattle.ct_sessions.specs.declared.own.Own.{Own}
use Rattle.ct_sessions.specs.Seats.{SessionsState, SeatState, needs_own, own_in, reads_at, seat_at, state_in}

-- it is what the first so many entries make of the machine's first database, with the first so many of the writes that wait
pub record IsShareOf (m : Machine) (pending : List Write) (own : Own) : Type 0 where
  pub within : own.at ≤ length m.past
  pub db : own.db ≡ with_writes (db_at m own.at) (take own.written pending)

-- each of the writes that wait can be stored in it, and it has no more of them than there are
pub record IsOwnOf (pending : List Write) (own : Own) : Type 0 where
  pub written : own.written ≤ length pending
  pub stored : AreStoredIn own.db.tables pending

-- it is of the right count of entries, and has all the writes that wait
pub record IsUpToDate (count : ℕ) (pending : List Write) (own : Own) : Type 0 where
  pub at : own.at ≡ count
  pub written : own.written ≡ length pending

-- where a session needs one, it is there and up to date
abbrev pub IsSeatReady : ℕ → SeatState → Type 0
IsSeatReady entries seat = needs_own seat.state ≡ true → IsSomeAnd seat.own (IsUpToDate (reads_at entries seat.state.tran) seat.state.pending)

-- the next statement of the session may read
abbrev pub IsReady : SessionsState → ℕ → Type 0
IsReady sessions number = IsSeatReady sessions.entries (seat_at sessions.seats number)

-- the session's own database, where it has one, else the newest
abbrev pub own_or : Db → Option Own → Db
own_or newest None = newest
own_or newest (Some own) = own.db

-- where a SNAPSHOT transaction has no view yet, a database of all entries is there for one
abbrev pub MayView : SessionsState → ℕ → Type 0
MayView sessions number = (state_in sessions.seats number).tran ≡ tran.Snapshot → IsSomeAnd (own_in sessions.seats number) (λ own. own.at ≡ sessions.entries)
