-- What a core is for and keeps, once it committed an entry.
use Rattle.std.proofs.Common.{◌≡◌, ℕ, true, cond, [], ◌∷◌, ◌++◌, Option, refl, sym, ap, ap₂, subst, ◌∙◌}
use Rattle.ct_types.specs.declared.command.Command.{Command}
use Rattle.ct_types.specs.declared.entry.Act.{Act}
use Rattle.ct_types.specs.declared.entry.Entry.{Entry}
use Rattle.ct_database.specs.Waiting.{AreStoredIn}
use Rattle.ct_model.specs.declared.db.Db.{Db}
use Rattle.ct_model.specs.Apply.{apply}
use Rattle.ct_session.specs.Sessions.{SessionState, ended}
use Rattle.ct_state.specs.Machine.{Machine, with_session, next_xdes}
use Rattle.ct_machine.specs.Step.{committed, entry_of, has_number, has_room, viewed}
use Rattle.ct_sessions.specs.Changes.{HasState}
use Rattle.ct_sessions.specs.Holds.{Holds, with_entry}
use Rattle.ct_sessions.specs.Seats.{SessionsState, state_in}
use Rattle.ct_core.specs.Range.{ActIsKept, IsInRange}
use Rattle.ct_core.specs.Stands.{CoreState, Stands}
use Rattle.ct_core.proofs.Keeping.{replayed, stored_after}
use Rattle.ct_core.proofs.Ranges.{in_range, machine_at, session_with}
use Rattle.ct_core.proofs.Turning.{holds_as, stored_in_state, viewed_by}

-- the entry was of the session as it was before it took a view
pub committed_stands : {D : Type 0} (core : CoreState D) (m : Machine) (s : ℕ) (what : Command) (act : Act) (entry : Entry) (db : Db) (sessions : SessionsState) (next : ℕ) → Stands core m
    → entry ≡ entry_of m (m.sessions s) act → db ≡ apply core.db entry → Holds sessions (with_session (with_entry m entry) s (ended (m.sessions s)))
    → next ≡ cond (has_number act) (next_xdes core.next (m.sessions s).xdes) core.next
    → Stands (record core { db = db; sessions = sessions; next = next }) (with_session (committed m (viewed m what (m.sessions s)) act) s (ended (viewed m what (m.sessions s))))
committed_stands core m s what act entry db sessions next stands is applied holds numbered =
    let state : SessionState = m.sessions s in
    let own : Stands (record core { db = db; sessions = sessions; next = next }) (with_session (committed m state act) s (ended state)) = record {
      db = applied ∙ ap₂ apply stands.db is ∙ sym (replayed m.first m.past (entry_of m state act ∷ []));
      now = stands.now;
      next = numbered ∙ ap (λ it. cond (has_number act) (next_xdes it state.xdes) it) stands.next;
      sessions =
          holds_as sessions (with_session (with_entry m entry) s (ended state)) (with_session (committed m state act) s (ended state)) refl (ap (λ it. m.past ++ it ∷ []) is) (λ n. refl) holds;
    } in
    viewed_by m what state (λ it. Stands (record core { db = db; sessions = sessions; next = next }) (with_session (committed m it act) s (ended it))) own own

-- what is in range stays so
pub committed_range : (db new : Db) (now next after : ℕ) (sessions ending : SessionsState) (s : ℕ) (state : SessionState) (drawn : Option ℕ) (act : Act) (entry : Entry) → IsInRange db next sessions → ActIsKept db act
    → entry ≡ entry_of (machine_at db now next) (session_with drawn) act → has_room entry ≡ true → HasState sessions.seats ending.seats s (ended state) → new ≡ apply db entry
    → after ≡ cond (has_number act) (next_xdes next drawn) next → IsInRange new after ending
committed_range db new now next after sessions ending s state drawn act entry range kept is room has applied numbered =
    let all = in_range db now next drawn act entry range.number range.tables kept is room in
    let stored : (k : ℕ) → AreStoredIn (apply db entry).tables (state_in ending.seats k).pending =
    stored_in_state (apply db entry).tables sessions.seats ending.seats s (ended state) has (λ k. stored_after db entry (state_in sessions.seats k).pending (range.stored k)) tt in
    subst (λ (it : Db). IsInRange it after ending) (sym applied)
    (subst (λ (number : ℕ). IsInRange (apply db entry) number ending) (sym numbered) (record { version = all.version; number = all.number; tables = all.tables; stored = stored }))
