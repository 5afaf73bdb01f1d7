-- For which machines the sessions in memory are those of the machine. This project's own.
use Rattle.std.specs.Prelude.{◌≡◌, ℕ, ◌+◌, ◌^◌, ◌<◌, true, List, [], ◌∷◌, ◌++◌, length}
use Rattle.std.specs.Option.{IfSome}
use Rattle.ct_types.specs.declared.entry.Entry.{Entry}
use Rattle.ct_conflicts.specs.Later.{IsLater}
use Rattle.ct_conflicts.specs.declared.stamps.TableStamps.{TableStamps}
use Rattle.ct_session.specs.Sessions.{SessionState}
use Rattle.ct_state.specs.Machine.{Machine}
use Rattle.ct_sessions.specs.Owns.{IsShareOf}
use Rattle.ct_sessions.specs.Seats.{SessionsState, SeatState, any_view, seat_at}

-- the session is in this state, and what it reads as its own is a database of the machine with its writes
pub record IsSeatOf (m : Machine) (session : SessionState) (seat : SeatState) : Type 0 where
  pub state : seat.state ≡ session
  pub own : IfSome seat.own (IsShareOf m session.pending)

-- the sessions are those of each machine with these sessions, so many entries, and such databases, whatever its time and next number
pub record Holds (sessions : SessionsState) (m : Machine) : Type 0 where
  pub seats : (number : ℕ) → IsSeatOf m (m.sessions number) (seat_at sessions.seats number)
  pub entries : sessions.entries ≡ length m.past
  pub later : IsLater sessions.later m.past sessions.since

-- with one entry more behind the others
abbrev pub with_entry : Machine → Entry → Machine
with_entry m entry = record m { past = m.past ++ entry ∷ [] }

-- where a session has a view, this tells of one entry more what is kept of those before; and one entry more can be counted
pub record IsNoted (sessions : SessionsState) (entry : Entry) (made : List TableStamps) : Type 0 where
  pub counted : sessions.entries + 1 < 2 ^ 64
  pub later : any_view sessions.seats ≡ true → (past : List Entry) → sessions.entries ≡ length past → IsLater sessions.later past sessions.since
      → IsLater made (past ++ entry ∷ []) sessions.since
