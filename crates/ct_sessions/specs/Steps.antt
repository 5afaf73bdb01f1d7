-- The steps of the code on the list of seats. No public clause speaks of this.
use Rattle.std.specs.Prelude.{◌≡◌, ◌≢◌, ℕ, ◌==◌, Bool, false, List, length, Option, None, Some, if◌then◌else◌}
use Rattle.ct_model.specs.declared.db.Db.{Db}
use Rattle.ct_session.specs.Sessions.{SessionState}
use Rattle.ct_session.specs.declared.tran.Tran.{Tran}
use Rattle.ct_session.specs.declared.tran.Tran.TheVariants as tran
use Rattle.ct_state.specs.Machine.{Machine, db_of}
use Rattle.ct_sessions.specs.declared.own.Own.{Own}
use Rattle.ct_sessions.specs.declared.seat.Seat.{Seat}
use Rattle.ct_sessions.specs.Holds.{IsSeatOf}
use Rattle.ct_sessions.specs.Seats.{SeatState, seat_at}
use Rattle.ct_sessions.specs.Sound.{IsSound}

-- the session of this number is this now, each other as it was
pub record HasSeat (old new : List Seat) (number : ℕ) (seat : SeatState) : Type 0 where
  pub it : seat_at new number ≡ seat
  pub others : (other : ℕ) → other ≢ number → seat_at new other ≡ seat_at old other

-- each session is as it was
abbrev pub HaveSeats : List Seat → List Seat → Type 0
HaveSeats old new = (number : ℕ) → seat_at new number ≡ seat_at old number

-- the session of this number comes to this, and keeps what it reads as its own
abbrev pub TurnsSeat : List Seat → List Seat → ℕ → (SessionState → SessionState) → Type 0
TurnsSeat old new number make = HasSeat old new number (record { state = make (seat_at old number).state; own = (seat_at old number).own })

-- a share of the newest database, without a write
abbrev pub share_at : Db → ℕ → Own
share_at newest entries = record { db = newest; at = entries; written = 0 }

abbrev pub is_at : ℕ → Option Own → Bool
is_at at None = false
is_at at (Some own) = own.at == at

-- what a session had, where that is of the right count of entries, else a share of the newest
abbrev pub own_at : Db → ℕ → ℕ → Option Own → Own
own_at newest entries at None = share_at newest entries
own_at newest entries at (Some own) = if own.at == at then own else share_at newest entries

-- what a session reads as its own was made anew, or not, and all else of it stays
pub record IsPrepared (newest : Db) (entries : ℕ) (old new : SeatState) : Type 0 where
  pub state : new.state ≡ old.state
  pub sound : IsSound new
  pub holds : (m : Machine) (session : SessionState) → newest ≡ db_of m → entries ≡ length m.past → IsSeatOf m session old → IsSeatOf m session new

-- a SNAPSHOT transaction without a view takes that of its own database, where it has one
abbrev pub snapshot_viewed : Option Own → Tran
snapshot_viewed None = tran.Snapshot
snapshot_viewed (Some own) = tran.Viewed (record { at = own.at; db_version = own.db.version })

abbrev pub tran_viewed : Option Own → Tran → Tran
tran_viewed own tran.Snapshot = snapshot_viewed own
tran_viewed own tran.None = tran.None
tran_viewed own tran.Committed = tran.Committed
tran_viewed own (tran.Viewed view) = tran.Viewed view

abbrev pub seat_viewed : SeatState → SeatState
seat_viewed seat = record seat { state = record seat.state { tran = tran_viewed seat.own seat.state.tran } }
