-- What a core stands for once a session has turned to another state, and takes a view.
use Rattle.std.proofs.Common.{◌≡◌, ℕ, ◌==◌, Bool, true, false, ◌≤◌, length, take, cond, List, Option, None, Some, refl, sym, ap, ap₂, subst, ◌∙◌, eq-eqb}
use Rattle.ct_types.specs.declared.command.Command.{Command}
use Rattle.ct_types.specs.declared.command.Command.TheVariants.{Sql}
use Rattle.ct_types.specs.declared.entry.Entry.{Entry}
use Rattle.ct_types.specs.declared.entry.Write.{Write}
use Rattle.ct_model.specs.declared.db.Db.{Db}
use Rattle.ct_model.specs.Apply.{replay}
use Rattle.ct_conflicts.specs.Later.{IsLater}
use Rattle.ct_model.specs.declared.db.Table.{Table}
use Rattle.ct_database.specs.Waiting.{AreStoredIn}
use Rattle.ct_session.specs.Sessions.{SessionState}
use Rattle.ct_state.specs.Machine.{Machine, with_session}
use Rattle.ct_state.specs.Seen.{takes_view, viewing, with_writes}
use Rattle.ct_machine.specs.Step.{viewed}
use Rattle.ct_sessions.specs.Changes.{HasState}
use Rattle.ct_sessions.specs.Holds.{Holds}
use Rattle.ct_sessions.specs.declared.seat.Seat.{Seat}
use Rattle.std.specs.Option.{IfSome}
use Rattle.ct_sessions.specs.declared.own.Own.{Own}
use Rattle.ct_sessions.specs.Owns.{IsShareOf}
use Rattle.ct_sessions.specs.Seats.{SessionsState, seat_at, state_in}
use Rattle.ct_core.specs.Stands.{CoreState, Stands}

-- ---- machines whose sessions are the same, one by one

pub itself : (n : ℕ) → (n == n) ≡ true
itself n = eq-eqb n n refl

share_as : (m other : Machine) → m.first ≡ other.first → m.past ≡ other.past → (pending : List Write) (own : Option Own) → IfSome own (IsShareOf m pending) → IfSome own (IsShareOf other pending)
share_as m other first past pending None shares = tt
share_as m other first past pending (Some own) shares = record {
  within = subst (λ (entries : List Entry). own.at ≤ length entries) past shares.within;
  db = shares.db ∙ ap₂ (λ (db : Db) (entries : List Entry). with_writes (replay db (take own.at entries)) (take own.written pending)) first past;
}

-- with the same first database, the same entries and, one by one, the same sessions
pub holds_as : (sessions : SessionsState) (m other : Machine) → m.first ≡ other.first → m.past ≡ other.past → ((n : ℕ) → m.sessions n ≡ other.sessions n) → Holds sessions m → Holds sessions other
holds_as sessions m other first past same holds = record {
  seats = λ n.
      let was = holds.seats n in
      record {
        state = was.state ∙ same n;
        own =
            share_as m other first past (other.sessions n).pending (seat_at sessions.seats n).own
            (subst (λ (session : SessionState). IfSome (seat_at sessions.seats n).own (IsShareOf m session.pending)) (same n) was.own);
      };
  entries = holds.entries ∙ ap length past;
  later = subst (λ (entries : List Entry). IsLater sessions.later entries sessions.since) past holds.later;
}

-- the session of a number has the state that it was given
given : (m : Machine) (n : ℕ) (state : SessionState) → (with_session m n state).sessions n ≡ state
given m n state = ap (λ test. cond test state (m.sessions n)) (itself n)

-- a state that was given twice counts as it was given last
twice : (m : Machine) (n : ℕ) (first second last : SessionState) → second ≡ last → (other : ℕ) → (with_session (with_session m n first) n second).sessions other ≡ (with_session m n last).sessions other
twice m n first second last same other = by (other == n)
  where
    by : (test : Bool) → cond test second (cond test first (m.sessions other)) ≡ cond test last (m.sessions other)
    by true = same
    by false = refl

-- ---- views

module _ (m : Machine) (what : Command) (session : SessionState) where
  -- what holds of the session, and of the session with a view, holds of the session as the statement leaves it
  pub viewed_by : (P : SessionState → Type 0) → P session → P (viewing m session) → P (viewed m what session)
  viewed_by P own other = at what
    where
      pick : (test : Bool) → P (cond test (viewing m session) session)
      pick true = other
      pick false = own

      at : (it : Command) → P (viewed m it session)
      at (Sql statement) = pick (takes_view statement)
      at it = own

-- a turn that leaves the transaction may come before the view or behind it
abbrev pub Commutes : (SessionState → SessionState) → Type 0
Commutes make = (m : Machine) (session : SessionState) → viewing m (make session) ≡ make (viewing m session)

pub turned_view : (make : SessionState → SessionState) → Commutes make → (m : Machine) (what : Command) (session : SessionState) → viewed m what (make session) ≡ make (viewed m what session)
turned_view make commutes m what session = at what
  where
    pick : (test : Bool) → cond test (viewing m (make session)) (make session) ≡ make (cond test (viewing m session) session)
    pick true = commutes m session
    pick false = refl

    at : (it : Command) → viewed m it (make session) ≡ make (viewed m it session)
    at (Sql statement) = pick (takes_view statement)
    at it = refl

-- ---- what a core stands for

module _ {D : Type 0} where
  pub stands_as : (core : CoreState D) (m : Machine) (others : ℕ → SessionState) → ((n : ℕ) → m.sessions n ≡ others n) → Stands core m → Stands core (record m { sessions = others })
  stands_as core m others same stands = record { db = stands.db; now = stands.now; next = stands.next; sessions = holds_as core.sessions m (record m { sessions = others }) refl refl same stands.sessions }

  -- a session turned, and then the statement took its view
  pub turned_stands : (core : CoreState D) (m : Machine) (n : ℕ) (what : Command) (make : SessionState → SessionState) → Commutes make
      → Stands core (with_session (with_session m n (make (m.sessions n))) n (viewed (with_session m n (make (m.sessions n))) what ((with_session m n (make (m.sessions n))).sessions n)))
      → Stands core (with_session m n (make (viewed m what (m.sessions n))))
  turned_stands core m n what make commutes stands =
      let state : SessionState = m.sessions n in
      let one : Machine = with_session m n (make state) in
      stands_as core (with_session one n (viewed one what (one.sessions n))) (with_session m n (make (viewed m what state))).sessions
      (twice m n (make state) (viewed one what (one.sessions n)) (make (viewed m what state)) (ap (viewed m what) (given m n (make state)) ∙ turned_view make commutes m what state))
      stands

-- ---- rows that wait can be stored

pub stored_in_state : (tables : List Table) (old new : List Seat) (n : ℕ) (state : SessionState) → HasState old new n state → ((k : ℕ) → AreStoredIn tables (state_in old k).pending)
    → AreStoredIn tables state.pending → (k : ℕ) → AreStoredIn tables (state_in new k).pending
stored_in_state tables old new n state has before own k = subst (λ (it : SessionState). AreStoredIn tables it.pending) (sym (has k)) (by (k == n))
  where
    by : (test : Bool) → AreStoredIn tables (cond test state (state_in old k)).pending
    by true = own
    by false = before k
