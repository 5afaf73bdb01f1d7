-- The sessions that are kept, those that did something, and for each the database of its own that it reads. This project's own.
use Rattle.std.specs.Prelude.{ℕ, ◌==◌, Bool, true, false, ◌||◌, List, [], ◌∷◌, find, Option, None, Some}
use Rattle.std.specs.List.{list_any}
use Rattle.ct_types.specs.declared.entry.Write.{Write}
use Rattle.ct_locks.specs.Holders.{Lock}
use Rattle.ct_conflicts.specs.declared.stamps.TableStamps.{TableStamps}
use Rattle.ct_session.specs.Sessions.{SessionState, fresh}
use Rattle.ct_session.specs.declared.tran.Tran.{Tran}
use Rattle.ct_session.specs.declared.tran.Tran.TheVariants as tran
use Rattle.ct_sessions.specs.declared.own.Own.{Own}
use Rattle.ct_sessions.specs.declared.seat.Seat.{Seat}

-- what contracts see of the sessions: those that did something, the keys that they hold, what entries changed since a count of them,
-- and the count of all entries
pub record SessionsState : Type 0 where
  pub seats : List Seat
  pub locks : List Lock
  pub later : List TableStamps
  pub since : ℕ
  pub entries : ℕ

-- ---- the session of a number

-- its state, and the database of its own that it reads, where it has one
pub record SeatState : Type 0 where
  pub state : SessionState
  pub own : Option Own

abbrev pub seat_state : Seat → SeatState
seat_state seat = record { state = seat.session.state; own = seat.own }

-- a session that is not there is as it starts
abbrev pub vacant : SeatState
vacant = record { state = fresh; own = None }

abbrev pub state_or_vacant : Option Seat → SeatState
state_or_vacant None = vacant
state_or_vacant (Some seat) = seat_state seat

abbrev pub is_of : ℕ → Seat → Bool
is_of number seat = seat.session.number == number

abbrev pub seat_at : List Seat → ℕ → SeatState
seat_at seats number = state_or_vacant (find (is_of number) seats)

abbrev pub state_in : List Seat → ℕ → SessionState
state_in seats number = (seat_at seats number).state

abbrev pub own_in : List Seat → ℕ → Option Own
own_in seats number = (seat_at seats number).own

-- ---- views

abbrev pub has_view : Tran → Bool
has_view (tran.Viewed view) = true
has_view tran.None = false
has_view tran.Committed = false
has_view tran.Snapshot = false

-- some session has a view
abbrev pub any_view : List Seat → Bool
any_view seats = list_any (λ seat. has_view seat.session.state.tran) seats

-- ---- what a session reads

-- a transaction under SNAPSHOT, with a view or without one yet
abbrev pub is_snapshot : Tran → Bool
is_snapshot tran.Snapshot = true
is_snapshot (tran.Viewed view) = true
is_snapshot tran.None = false
is_snapshot tran.Committed = false

abbrev pub has_writes : List Write → Bool
has_writes [] = false
has_writes (write ∷ more) = true

-- the next statement reads a database of the session's own: under SNAPSHOT, and where writes wait
abbrev pub needs_own : SessionState → Bool
needs_own session = is_snapshot session.tran || has_writes session.pending

-- the count of entries of the database that a transaction reads: that of its view, else that of all
abbrev pub reads_at : ℕ → Tran → ℕ
reads_at entries (tran.Viewed view) = view.at
reads_at entries tran.None = entries
reads_at entries tran.Committed = entries
reads_at entries tran.Snapshot = entries
