-- What holds of the sessions, whatever the machine. This project's own.
use Rattle.std.specs.Prelude.{◌≡◌, ℕ, ◌≤◌, false, List, [], map, Option, None}
use Rattle.std.specs.Option.{IfSome, IsSomeAnd}
use Rattle.ct_locks.specs.Changes.{lock_of_write}
use Rattle.ct_locks.specs.Holders.{Lock, locks_of}
use Rattle.ct_session.specs.Sessions.{SessionState, is_open}
use Rattle.ct_session.specs.declared.tran.Tran.{Tran}
use Rattle.ct_session.specs.declared.tran.Tran.TheVariants as tran
use Rattle.ct_sessions.specs.declared.own.Own.{Own}
use Rattle.ct_sessions.specs.declared.seat.Seat.{Seat}
use Rattle.ct_sessions.specs.Owns.{IsOwnOf}
use Rattle.ct_sessions.specs.Seats.{SeatState, needs_own, seat_at, state_in}

-- no write waits, and no number is drawn
pub record IsIdle (session : SessionState) : Type 0 where
  pub pending : session.pending ≡ []
  pub xdes : session.xdes ≡ None

-- a transaction with a view has the database of the view
abbrev pub HasItsView : Tran → Option Own → Type 0
HasItsView (tran.Viewed view) own = IsSomeAnd own (λ it. it.at ≡ view.at)
HasItsView tran.None own = Unit {0}
HasItsView tran.Committed own = Unit {0}
HasItsView tran.Snapshot own = Unit {0}

-- a session without a transaction is idle; it has no database of its own but where it needs one; that of a view is there; and the
-- writes that wait can be stored in it
pub record IsSound (seat : SeatState) : Type 0 where
  pub idle : is_open seat.state.tran ≡ false → IsIdle seat.state
  pub needed : needs_own seat.state ≡ false → seat.own ≡ None
  pub viewed : HasItsView seat.state.tran seat.own
  pub own : IfSome seat.own (IsOwnOf seat.state.pending)

-- a view is of so many entries or more
abbrev pub ViewsFrom : ℕ → Tran → Type 0
ViewsFrom since (tran.Viewed view) = since ≤ view.at
ViewsFrom since tran.None = Unit {0}
ViewsFrom since tran.Committed = Unit {0}
ViewsFrom since tran.Snapshot = Unit {0}

-- of each session: it is sound, what is known of entries is known since its view, and it holds the keys of its writes, in their order
pub record AreSound (seats : List Seat) (locks : List Lock) (since entries : ℕ) : Type 0 where
  pub each : (number : ℕ) → IsSound (seat_at seats number)
  pub views : (number : ℕ) → ViewsFrom since (state_in seats number).tran
  pub known : since ≤ entries
  pub held : (number : ℕ) → locks_of locks number ≡ map (lock_of_write number) (state_in seats number).pending
