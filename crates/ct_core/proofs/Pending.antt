-- What a core is for and keeps, once writes of a session wait.
use Rattle.std.proofs.Common.{◌≡◌, ℕ, ◌+◌, ◌^◌, ◌≤◌, Bool, cond, List, Option, None, Some, refl, sym, ap, ap₂, subst, ◌∙◌, take}
use Rattle.std.specs.Option.{IfSome}
use Rattle.ct_types.specs.declared.command.Command.{Command}
use Rattle.ct_types.specs.declared.entry.Write.{Write}
use Rattle.ct_types.specs.declared.refusal.Refusal.TheVariants.{Exhausted}
use Rattle.ct_types.specs.declared.reply.Reply.{Reply}
use Rattle.ct_database.specs.Waiting.{AreStoredIn}
use Rattle.ct_model.specs.declared.db.Db.{Db}
use Rattle.ct_session.specs.Sessions.{SessionState}
use Rattle.ct_state.specs.Machine.{Machine, db_at, with_session, next_xdes, xdes_or}
use Rattle.ct_machine.specs.declared.decision.Decision.{Decision}
use Rattle.ct_machine.specs.declared.decision.Decision.TheVariants.{Pends, Refuses}
use Rattle.ct_machine.specs.Step.{machine_after, most_number, reply_of, settled, viewed, with_pending}
use Rattle.ct_sessions.specs.Changes.{Turns, waiting}
use Rattle.ct_sessions.specs.Holds.{Holds}
use Rattle.ct_sessions.specs.declared.own.Own.{Own}
use Rattle.ct_sessions.specs.Owns.{IsShareOf, own_or}
use Rattle.ct_sessions.specs.Seats.{SessionsState, own_in, state_in}
use Rattle.ct_core.specs.Range.{IsInRange}
use Rattle.ct_core.specs.Settling.{IsSettled}
use Rattle.ct_core.specs.Stands.{CoreState, Stands}
use Rattle.ct_core.proofs.Keeping.{stored_both, stored_newest}
use Rattle.ct_core.proofs.Ranges.{at_least, next_in_range}
use Rattle.ct_core.proofs.Turning.{holds_as, stored_in_state, turned_stands, viewed_by}

-- a machine that has used up a number for the transaction of a session, where it had none
abbrev pub numbered : Machine → ℕ → Machine
numbered m n = record m { next = next_xdes m.next (m.sessions n).xdes }

-- and with more writes of the session that wait
abbrev pub pending_in : Machine → ℕ → List Write → Machine
pending_in m n writes = with_session (numbered m n) n (with_pending m writes (m.sessions n))

module _ {D : Type 0} where
  -- what can be stored in the database that a session sees can be stored in the newest
  pub stored_there : (core : CoreState D) (m : Machine) (n : ℕ) (writes : List Write) → Stands core m → AreStoredIn (own_or core.db (own_in core.sessions.seats n)).tables writes → AreStoredIn core.db.tables writes
  stored_there core m n writes stands = by (own_in core.sessions.seats n) (stands.sessions.seats n).own
    where
      by : (own : Option Own) → IfSome own (IsShareOf m (m.sessions n).pending) → AreStoredIn (own_or core.db own).tables writes → AreStoredIn core.db.tables writes
      by None share here = here
      by (Some own) share here =
          subst (λ (db : Db). AreStoredIn db.tables writes) (sym stands.db)
          (stored_newest m.first m.past own.at (db_at m own.at).version (take own.written (m.sessions n).pending) writes (subst (λ (db : Db). AreStoredIn db.tables writes) share.db here))

  -- a core whose sessions have more writes that wait is for the machine with them, which has used up a number
  pub pended_stands : (core : CoreState D) (m : Machine) (n : ℕ) (writes : List Write) (sessions : SessionsState) (after : ℕ) → Stands core m → Turns core.sessions sessions n (waiting core.next writes)
      → after ≡ next_xdes core.next (state_in core.sessions.seats n).xdes → Stands (record core { sessions = sessions; next = after }) (pending_in m n writes)
  pended_stands core m n writes sessions after stands turns numbered = record {
    db = stands.db;
    now = stands.now;
    next = numbered ∙ ap₂ next_xdes stands.next (ap (λ (state : SessionState). state.xdes) (stands.sessions.seats n).state);
    sessions =
        holds_as sessions (with_session m n (with_pending m writes (m.sessions n))) (pending_in m n writes) refl refl (λ other. refl)
        (subst (λ (next : ℕ). Holds sessions (with_session m n (waiting next writes (m.sessions n)))) stands.next (turns.holds m stands.sessions));
  }

  -- so it is settled, once the statement took its view
  pub pended : (new : CoreState D) (m : Machine) (n : ℕ) (what : Command) (writes : List Write) (reply : Reply) → xdes_or m.next (m.sessions n).xdes ≤ 2 ^ 62
      → Stands new (with_session (pending_in m n writes) n (viewed (pending_in m n writes) what ((pending_in m n writes).sessions n))) → IsSettled m n what (Pends writes reply) reply new
  pended new m n what writes reply room stands =
      let session : SessionState = m.sessions n in
      let comes : settled m session (Pends writes reply) ≡ Pends writes reply =
      ap (λ (test : Bool). cond test (Pends writes reply) (Refuses (Exhausted most_number))) (at_least (xdes_or m.next session.xdes) (2 ^ 62) room) in
      let turned : Stands new (with_session (numbered m n) n (with_pending m writes (viewed m what session))) = turned_stands new (numbered m n) n what (with_pending m writes) (λ machine state. refl) stands in
      let made : Stands new (machine_after m n what (Pends writes reply)) =
      viewed_by m what session (λ (it : SessionState). Stands new (with_session (record m { next = next_xdes m.next it.xdes }) n (with_pending m writes (viewed m what session)))) turned turned in
      record {
        reply = sym (ap reply_of comes);
        stands = subst (λ (d : Decision). Stands new (machine_after m n what d)) (sym comes) made;
      }

-- what is in range stays so
pub pended_range : (db : Db) (next after : ℕ) (sessions new : SessionsState) (n : ℕ) (writes : List Write) → IsInRange db next sessions → Turns sessions new n (waiting next writes) → AreStoredIn db.tables writes
    → xdes_or next (state_in sessions.seats n).xdes ≤ 2 ^ 62 → after ≡ next_xdes next (state_in sessions.seats n).xdes → IsInRange db after new
pended_range db next after sessions new n writes range turns stored room numbered = record {
  version = range.version;
  number = subst (λ (it : ℕ). it ≤ 2 ^ 62 + 1) (sym numbered) (next_in_range (state_in sessions.seats n).xdes next room range.number);
  tables = range.tables;
  stored =
      stored_in_state db.tables sessions.seats new.seats n (waiting next writes (state_in sessions.seats n)) turns.states range.stored
      (stored_both db.tables (state_in sessions.seats n).pending writes (range.stored n) stored);
}
