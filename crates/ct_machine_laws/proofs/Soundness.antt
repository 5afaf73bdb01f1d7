-- A sound machine stays sound: each entry that a statement gives applies to its database, and sessions stay sound.
use Rattle.std.proofs.Common.{◌≡◌, ◌≢◌, ℕ, ◌+◌, ◌^◌, ◌≤◌, ◌<◌, ◌==◌, eqb, eqb-true, eq-eqb, nat_le, Bool, true, false, cond, leb-true, List, [], ◌∷◌, ◌++◌, length, length-append, max, if◌then◌else◌, Option, None, Some, IfSome, refl, sym, subst, ◌∙◌, le_refl, le_trans, arith}
use Rattle.std.specs.List.{AllByRecursion}
use Rattle.std.proofs.lemmas.Option.{IfSome_then}
use Rattle.ct_types.proofs.Lists.{all_append}
use Rattle.ct_types.specs.declared.catalogue.Variable.{Variable}
use Rattle.ct_types.specs.declared.entry.Act.{Act}
use Rattle.ct_types.specs.declared.entry.Act.TheVariants.{Commit, Define, Truncate, Enable, Disable, Database, Raise}
use Rattle.ct_types.specs.declared.entry.Entry.{Entry}
use Rattle.ct_types.specs.declared.entry.Kept.{Kept}
use Rattle.ct_types.specs.declared.entry.Write.{Write}
use Rattle.ct_types.specs.declared.refusal.Refusal.TheVariants.{Exhausted}
use Rattle.ct_types.specs.declared.reply.Reply.{Reply}
use Rattle.ct_types.specs.declared.schema.ColType.{ColType}
use Rattle.ct_types.specs.declared.value.Value.{Value}
use Rattle.ct_model.specs.declared.db.Db.{Db}
use Rattle.ct_model.specs.Applies.{ActApplies, Applies, ApplyInTurn, IsNewXdes, XdesApplies}
use Rattle.ct_model.specs.Apply.{apply, commit_stays, kept_of, no_db, replay, tables_after, trim_one}
use Rattle.ct_model.specs.Valid.{IsKeptValid, IsValid}
use Rattle.ct_model_laws.proofs.InTurn.{ApplyInTurn-push, no_db_valid, replay-push, replay-valid}
use Rattle.ct_model.proofs.Members.{all_added, all_filter, all_map, all_weaken}
use Rattle.ct_bind_kinds.specs.Kinds.{AreOfTheirTypes, IsOfKind, kind_of_type}
use Rattle.ct_session.specs.Sessions.{SessionState, begun, ended, fresh}
use Rattle.ct_session.specs.SetDeclare.{with_value, with_variable}
use Rattle.ct_session.specs.declared.tran.Tran.{Tran}
use Rattle.ct_session.specs.declared.tran.Tran.TheVariants as tran
use Rattle.ct_machine_laws.proofs.Sameness.{both}
use Rattle.ct_types.specs.declared.command.Command.{Command}
use Rattle.ct_types.specs.declared.command.Command.TheVariants.{Sql}
use Rattle.ct_types.specs.declared.command.Journaled.{Journaled}
use Rattle.ct_machine.specs.declared.decision.Decision.{Decision}
use Rattle.ct_machine.specs.declared.decision.Decision.TheVariants.{Refuses, Aborts, Answers, Commits, Pends, Begins, Ends, Isolates, Sets, Declares}
use Rattle.ct_machine.specs.Decide.{decide}
use Rattle.ct_state.specs.Machine.{Machine, db_of, opening, with_session, next_xdes, xdes_or}
use Rattle.ct_machine.specs.Play.{after, end_of}
use Rattle.ct_state.specs.Replies.{is_memory}
use Rattle.ct_state.specs.Seen.{takes_view, tran_viewing, viewing}
use Rattle.ct_machine.specs.Step.{changed, committed, decision_of, entry_of, has_number, has_room, machine_after, most_number, settled, step, viewed, with_pending}
use Rattle.ct_machine_laws.specs.Laws.{EntriesApply, OneHolds, OpensSound, PendingApplies, PlaysKeepValid, SoundIsValid, StaysSound}
use Rattle.ct_machine_laws.specs.Sound.{CommitsWell, EachCommitsWell, IsSound, IsWell}
use Rattle.ct_machine_laws.specs.Transactions.{AreApart, AreSessionsSound, IsDrawn, IsSessionSound, IsViewWithin, MayWait, NameOthers, NamesOther, Spares, SparesOthers}
use Rattle.ct_model_laws.proofs.Alike.{still_apply}
use Rattle.ct_machine_laws.proofs.Holders.{held_apart, others_back}
use Rattle.ct_machine_laws.proofs.Sparing.{act_alike}

-- ---- decisions

-- what is settled was decided so, and an act that commits has room for the numbers of its entry
record WasSettled (m : Machine) (session : SessionState) (d : Decision) (act : Act) (reply : Reply) : Type 0 where
  pub was : d ≡ Commits act reply
  pub room : has_room (entry_of m session act) ≡ true

settled_commits : (m : Machine) (session : SessionState) (d : Decision) (act : Act) (reply : Reply) → settled m session d ≡ Commits act reply → WasSettled m session d act reply
settled_commits m session (Commits done answer) act reply e = step (has_room (entry_of m session done)) refl e
  where
    step : (room : Bool) → room ≡ has_room (entry_of m session done) → cond room (Commits done answer) (Refuses (Exhausted most_number)) ≡ Commits act reply
        → WasSettled m session (Commits done answer) act reply
    step false is e = absurd cc
    step true is e = let same : done ≡ act = cc in record { was = e; room = subst (λ a. has_room (entry_of m session a) ≡ true) same (sym is) }
settled_commits m session (Pends writes answer) act reply e = absurd (step (nat_le (xdes_or m.next session.xdes) most_number) e)
  where
    step : (room : Bool) → cond room (Pends writes answer) (Refuses (Exhausted most_number)) ≡ Commits act reply → ⊥
    step false e = cc
    step true e = cc
settled_commits m session d act reply e = absurd cc

-- writes that wait once it is settled have a number that is not past the greatest
settled_pends : (m : Machine) (session : SessionState) (d : Decision) (writes : List Write) (reply : Reply) → settled m session d ≡ Pends writes reply
    → xdes_or m.next session.xdes ≤ 2 ^ 62
settled_pends m session (Commits done answer) writes reply e = absurd (step (has_room (entry_of m session done)) e)
  where
    step : (room : Bool) → cond room (Commits done answer) (Refuses (Exhausted most_number)) ≡ Pends writes reply → ⊥
    step false e = cc
    step true e = cc
settled_pends m session (Pends made answer) writes reply e = step (nat_le (xdes_or m.next session.xdes) most_number) refl e
  where
    step : (room : Bool) → room ≡ nat_le (xdes_or m.next session.xdes) most_number → cond room (Pends made answer) (Refuses (Exhausted most_number)) ≡ Pends writes reply
        → xdes_or m.next session.xdes ≤ 2 ^ 62
    step false is e = absurd cc
    step true is e = leb-true (xdes_or m.next session.xdes) (2 ^ 62) (sym is)
settled_pends m session d writes reply e = absurd cc

-- what is well stays so once it is settled
well_settled : (m : Machine) (s : ℕ) (session : SessionState) (d : Decision) → IsWell m s session d → IsWell m s session (settled m session d)
well_settled m s session (Commits act reply) well = step (has_room (entry_of m session act))
  where
    step : (room : Bool) → IsWell m s session (cond room (Commits act reply) (Refuses (Exhausted most_number)))
    step false = tt
    step true = well
well_settled m s session (Pends writes reply) well = step (nat_le (xdes_or m.next session.xdes) most_number)
  where
    step : (room : Bool) → IsWell m s session (cond room (Pends writes reply) (Refuses (Exhausted most_number)))
    step false = tt
    step true = well
well_settled m s session (Refuses refusal) well = tt
well_settled m s session (Aborts refusal) well = tt
well_settled m s session (Answers reply) well = tt
well_settled m s session Begins well = tt
well_settled m s session Ends well = tt
well_settled m s session (Isolates snapshot) well = tt
well_settled m s session (Sets name value) well = well
well_settled m s session (Declares name kind value) well = well

-- ---- numbers of transactions

pub sound_is_valid : SoundIsValid
sound_is_valid m sound = replay-valid m.first m.past sound.first sound.entries

-- the number that a transaction has drawn, or draws now, is one that an entry may have
number_new : (m : Machine) (xdes : Option ℕ) → IsSound m → IfSome xdes (IsDrawn (db_of m) m.next) → xdes_or m.next xdes ≤ 2 ^ 62 → IsNewXdes (db_of m) (xdes_or m.next xdes)
number_new m None sound drawn few = (
  omega (arith, sound.next),
  few,
  all_weaken (IsKeptValid (db_of m)) _ (λ (kept : Kept) was same. absurd (omega (arith, was.xdes, sound.next, same))) (db_of m).kept (sound_is_valid m sound).kept,
)
number_new m (Some n) sound drawn few = drawn.new

-- it is below the next one then
number_drawn : (m : Machine) (xdes : Option ℕ) → IsSound m → IfSome xdes (IsDrawn (db_of m) m.next) → xdes_or m.next xdes ≤ 2 ^ 62
    → IsDrawn (db_of m) (next_xdes m.next xdes) (xdes_or m.next xdes)
number_drawn m None sound drawn few = record { below = omega arith; new = number_new m None sound tt few }
number_drawn m (Some n) sound drawn few = drawn

next_grows : (numbered : Bool) (xdes : Option ℕ) (next : ℕ) → next ≤ (if numbered then next_xdes next xdes else next)
next_grows true None next = omega arith
next_grows true (Some n) next = le_refl next
next_grows false xdes next = le_refl next

-- the next number is above every one that was given
next_rises : (numbered : Bool) (xdes : Option ℕ) (last next : ℕ) → last < next → IfSome xdes (λ n. n < next)
    → max last (if numbered then xdes_or next xdes else 0) < (if numbered then next_xdes next xdes else next)
next_rises true None last next lt below = omega arith
next_rises true (Some n) last next lt below = omega (arith, below)
next_rises false xdes last next lt below = omega arith

-- the number of an entry is that of no other session
number_differs : (numbered : Bool) (xdes other : Option ℕ) (next : ℕ) → IfSome other (λ n. (1 ≤ n) × (n < next)) → IfSome xdes (λ x. IfSome other (λ n. x ≢ n))
    → IfSome other (λ n. n ≢ (if numbered then xdes_or next xdes else 0))
number_differs numbered xdes None next within apart = tt
number_differs false xdes (Some n) next within apart = λ same. absurd (omega (arith, within.0, same))
number_differs true None (Some n) next within apart = λ same. absurd (omega (arith, within.1, same))
number_differs true (Some x) (Some n) next within apart = λ same. apart (sym same)

some_both : {X : Type 0} (P Q R : X → Type 0) → ((x : X) → P x → Q x → R x) → (o : Option X) → IfSome o P → IfSome o Q → IfSome o R
some_both P Q R join None p q = tt
some_both P Q R join (Some x) p q = join x p q

-- ---- entries

xdes_applies : (db : Db) (act : Act) (n : ℕ) → (n ≤ 2 ^ 62 → IsNewXdes db n) → (if has_number act then n else 0) ≤ 2 ^ 62 → XdesApplies db act (if has_number act then n else 0)
xdes_applies db (Commit writes) n new few = new few
xdes_applies db (Define schema) n new few = new few
xdes_applies db (Truncate id) n new few = new few
xdes_applies db (Enable id masks) n new few = new few
xdes_applies db (Disable id) n new few = new few
xdes_applies db (Database keep) n new few = new few
xdes_applies db (Raise minima) n new few = refl

-- an act of a session, where its entry has room for its numbers
entry_applies : (m : Machine) (session : SessionState) (act : Act) → IsSound m → IfSome session.xdes (IsDrawn (db_of m) m.next)
    → ActApplies (db_of m) (entry_of m session act).version (entry_of m session act).draws act → has_room (entry_of m session act) ≡ true → Applies (db_of m) (entry_of m session act)
entry_applies m session act sound drawn well room =
    let rooms = both (nat_le (entry_of m session act).version (2 ^ 62)) (nat_le (entry_of m session act).xdes (2 ^ 62)) room in
    record {
      version = refl;
      version_within = leb-true (entry_of m session act).version (2 ^ 62) rooms.0;
      time = sound.time;
      time_within = sound.time_within;
      xdes = xdes_applies (db_of m) act (xdes_or m.next session.xdes) (number_new m session.xdes sound drawn) (leb-true (entry_of m session act).xdes (2 ^ 62) rooms.1);
      act = well;
    }

pub entries_apply : EntriesApply
entries_apply m s what act reply sound well e =
    let made = settled_commits m (m.sessions s) (decide m s what) act reply e in
    let applies = subst (IsWell m s (m.sessions s)) made.was well in
    entry_applies m (m.sessions s) act sound (sound.sessions.each s).xdes applies.0 made.room

-- ---- what waits

pub pending_applies : PendingApplies
pending_applies m s sound some = (some, (sound.sessions.each s).pending, refl)

pub one_holds : OneHolds
one_holds m s other table key sound here there = step (eqb s other) refl
  where
    clash : ◌≡◌ {A = Bool} true false → ⊥
    clash e = cc

    step : (b : Bool) → b ≡ eqb s other → s ≡ other
    step true e = eqb-true s other (sym e)
    step false e =
        let differ : s ≢ other = (λ same. absurd (clash (sym (eq-eqb s other same) ∙ sym e))) in
        absurd (clash (sym there ∙ held_apart table key (m.sessions s).pending (m.sessions other).pending (sound.sessions.apart s other differ).keys here))

-- ---- sessions apart

numbers_back : (o p : Option ℕ) → IfSome o (λ x. IfSome p (λ y. x ≢ y)) → IfSome p (λ y. IfSome o (λ x. y ≢ x))
numbers_back None None apart = tt
numbers_back None (Some y) apart = tt
numbers_back (Some x) None apart = tt
numbers_back (Some x) (Some y) apart = λ same. apart (sym same)

apart_back : (a b : SessionState) → AreApart a b → AreApart b a
apart_back a b apart = record { keys = others_back a.pending b.pending apart.keys; numbers = numbers_back a.xdes b.xdes apart.numbers }

ended_apart : (session other : SessionState) → AreApart (ended session) other
ended_apart session other = record { keys = tt; numbers = tt }

-- the sessions, of which one is another
module _ (sessions : ℕ → SessionState) (s : ℕ) (session : SessionState) where
  abbrev replacing : ℕ → SessionState
  replacing other = if other == s then session else sessions other

  picked : (P : SessionState → Type 0) (other : ℕ) → (other ≡ s → P session) → (other ≢ s → P (sessions other)) → P (replacing other)
  picked P other here there = step (eqb other s) refl
    where
      step : (b : Bool) → b ≡ eqb other s → P (cond b session (sessions other))
      step true e = here (eqb-true other s (sym e))
      step false e = there (λ same. let equal = eq-eqb other s same in absurd cc)

  replaced : (count : ℕ) (db : Db) (next : ℕ) → s < 256
      → ((other : ℕ) → other ≢ s → IsSessionSound count db next (sessions other)) → IsSessionSound count db next session
      → ((a b : ℕ) → a ≢ b → AreApart (sessions a) (sessions b)) → ((other : ℕ) → other ≢ s → AreApart session (sessions other))
      → ((other : ℕ) → 256 ≤ other → sessions other ≡ fresh) → AreSessionsSound count db next replacing
  replaced count db next within others own apart anew bytes = record {
    each = λ other. picked (IsSessionSound count db next) other (λ same. own) (others other);
    apart = λ a b differ.
        picked (λ x. AreApart x (replacing b)) a
        (λ is. picked (AreApart session) b (λ also. absurd (differ (is ∙ sym also))) (anew b))
        (λ ne. picked (AreApart (sessions a)) b (λ is. apart_back session (sessions a) (anew a ne)) (λ also. apart a b differ));
    bytes = λ other above. picked (λ x. x ≡ fresh) other (λ same. absurd (omega (arith, same, above, within))) (λ ne. bytes other above);
  }

-- ---- opening

fresh_sound : (db : Db) (next : ℕ) → IsSessionSound 0 db next fresh
fresh_sound db next = record { view = tt; quiet = λ none. (refl, refl); pending = tt; xdes = tt; variables = tt }

pub opens_sound : OpensSound
opens_sound db is = record {
  first = is;
  entries = tt;
  time = le_refl db.time;
  time_within = is.time;
  next = omega arith;
  sessions = record {
    each = λ s. fresh_sound db (db.last_xdes + 1);
    apart = λ s other differ. record { keys = tt; numbers = tt };
    bytes = λ s above. refl;
  };
}

-- ---- a view is taken

view_taken : (m : Machine) (it : Tran) → IsViewWithin (length m.past) it → IsViewWithin (length m.past) (tran_viewing m it)
view_taken m tran.None within = tt
view_taken m tran.Committed within = tt
view_taken m tran.Snapshot within = le_refl (length m.past)
view_taken m (tran.Viewed view) within = within

-- none is taken but in a transaction
still_none : (m : Machine) (it : Tran) → tran_viewing m it ≡ tran.None → it ≡ tran.None
still_none m tran.None e = refl
still_none m tran.Committed e = absurd cc
still_none m tran.Snapshot e = absurd cc
still_none m (tran.Viewed view) e = absurd cc

view_later : (it : Tran) (count later : ℕ) → count ≤ later → IsViewWithin count it → IsViewWithin later it
view_later tran.None count later le within = tt
view_later tran.Committed count later le within = tt
view_later tran.Snapshot count later le within = tt
view_later (tran.Viewed view) count later le within = le_trans within le

-- what holds of a session with a view and without holds of it, whether the statement takes one or not
viewed_or_not : (P : SessionState → Type 0) (m : Machine) (what : Command) (session : SessionState) → P session → P (viewing m session) → P (viewed m what session)
viewed_or_not P m (Sql statement) session without with_it = elim (takes_view statement) as (λ b. P (if b then viewing m session else session)) [ true ↦ with_it | false ↦ without ]
viewed_or_not P m what session without with_it = without

viewed_sound : (m : Machine) (what : Command) (session : SessionState) → IsSessionSound (length m.past) (db_of m) m.next session
    → IsSessionSound (length m.past) (db_of m) m.next (viewed m what session)
viewed_sound m what session own =
    viewed_or_not (IsSessionSound (length m.past) (db_of m) m.next) m what session own
    (record { view = view_taken m session.tran own.view; quiet = λ none. own.quiet (still_none m session.tran none); pending = own.pending; xdes = own.xdes; variables = own.variables })

viewed_apart : (m : Machine) (what : Command) (session other : SessionState) → AreApart session other → AreApart (viewed m what session) other
viewed_apart m what session other apart = viewed_or_not (λ x. AreApart x other) m what session apart (record { keys = apart.keys; numbers = apart.numbers })

viewed_xdes : (m : Machine) (what : Command) (session : SessionState) → (viewed m what session).xdes ≡ session.xdes
viewed_xdes m what session = viewed_or_not (λ x. x.xdes ≡ session.xdes) m what session refl refl

-- a view changes nothing of what is well
viewed_well : (m : Machine) (s : ℕ) (what : Command) (session : SessionState) (d : Decision) → IsWell m s session d → IsWell m s (viewed m what session) d
viewed_well m s what session (Refuses refusal) well = tt
viewed_well m s what session (Aborts refusal) well = tt
viewed_well m s what session (Answers reply) well = tt
viewed_well m s what session (Commits act reply) well = well
viewed_well m s what session (Pends writes reply) well =
    viewed_or_not (λ x. MayWait (db_of m) m.sessions s x writes) m what session well
    (record { open_tran = λ none. well.open_tran (still_none m session.tran none); applies = well.applies; free = well.free })
viewed_well m s what session Begins well = tt
viewed_well m s what session Ends well = tt
viewed_well m s what session (Isolates snapshot) well = tt
viewed_well m s what session (Sets name value) well = viewed_or_not (λ x. AreOfTheirTypes (with_value x.variables name value)) m what session well well
viewed_well m s what session (Declares name kind value) well = well

-- ---- the other sessions after an entry

-- a number that no kept commit has, nor the entry, no kept commit has after it
new_after : (db : Db) (entry : Entry) (n : ℕ) → n ≢ entry.xdes → AllByRecursion (λ kept. kept.xdes ≢ n) db.kept → AllByRecursion (λ kept. kept.xdes ≢ n) (apply db entry).kept
unfolding apply
new_after db entry n differs new =
    let tables = tables_after entry.act entry.version entry.draws db.tables in
    all_map (λ (kept : Kept). kept.xdes ≢ n) (λ (kept : Kept). kept.xdes ≢ n) (trim_one tables) (λ kept other. other) _
    (all_filter (λ (kept : Kept). kept.xdes ≢ n) (λ (kept : Kept). kept.xdes ≢ n) (commit_stays tables) (λ kept stays other. other) _
    (all_added (λ (kept : Kept). kept.xdes ≢ n) entry.draws db.kept (kept_of entry) new (λ drawn same. differs (sym same))))

drawn_after : (db : Db) (entry : Entry) (next later n : ℕ) → next ≤ later → IsDrawn db next n → n ≢ entry.xdes → IsDrawn (apply db entry) later n
drawn_after db entry next later n le drawn differs = record { below = omega (arith, drawn.below, le); new = (drawn.new.0, drawn.new.1, new_after db entry n differs drawn.new.2) }

other_after : (db : Db) (count next later : ℕ) (entry : Entry) (other : SessionState) → IsValid db → Applies db entry → next ≤ later
    → AllByRecursion (Spares entry.act) other.pending → IfSome other.xdes (λ n. n ≢ entry.xdes)
    → IsSessionSound count db next other → IsSessionSound (count + 1) (apply db entry) later other
unfolding apply
other_after db count next later entry other valid applies le spared differs own = record {
  view = view_later other.tran count (count + 1) (omega arith) own.view;
  quiet = own.quiet;
  pending = still_apply other.pending db.tables (tables_after entry.act entry.version entry.draws db.tables)
      (all_weaken (Spares entry.act) _ (λ (w : Write) spares. act_alike db entry.version entry.draws entry.act w.table w.key applies.act valid.numbered spares.table spares.key) other.pending spared)
      own.pending;
  xdes = some_both (IsDrawn db next) (λ n. n ≢ entry.xdes) (IsDrawn (apply db entry) later) (λ n drawn apart. drawn_after db entry next later n le drawn apart) other.xdes own.xdes differs;
  variables = own.variables;
}

-- ---- the machine after it

added_of_types : (variables : List Variable) (name : List ℕ) (kind : ColType) (value : Value) → AreOfTheirTypes variables → IsOfKind (kind_of_type kind) value
    → AreOfTheirTypes (with_variable variables name kind value)
added_of_types [] name kind value are is = (is, tt)
added_of_types (variable ∷ more) name kind value are is = (are.0, added_of_types more name kind value are.1 is)

begun_view : (snapshot : Bool) (count : ℕ) → IsViewWithin count (begun snapshot)
begun_view true count = tt
begun_view false count = tt

begun_open : (snapshot : Bool) → begun snapshot ≢ tran.None
begun_open true e = cc
begun_open false e = cc

length-push : (entries : List Entry) (entry : Entry) → length (entries ++ entry ∷ []) ≡ length entries + 1
length-push entries entry = length-append entries (entry ∷ [])

module _ (m : Machine) (s : ℕ) (session : SessionState) (sound : IsSound m) (within : s < 256) (own : IsSessionSound (length m.past) (db_of m) m.next session)
    (apart : (other : ℕ) → other ≢ s → AreApart session (m.sessions other)) where
  -- with another sound session
  session_sound : (now : SessionState) → IsSessionSound (length m.past) (db_of m) m.next now → ((other : ℕ) → other ≢ s → AreApart now (m.sessions other))
      → IsSound (with_session m s now)
  session_sound now is anew = record {
    first = sound.first;
    entries = sound.entries;
    time = sound.time;
    time_within = sound.time_within;
    next = sound.next;
    sessions = replaced m.sessions s now (length m.past) (db_of m) m.next within (λ other ne. sound.sessions.each other) is sound.sessions.apart anew sound.sessions.bytes;
  }

  ended_sound : IsSound (with_session m s (ended session))
  ended_sound =
      session_sound (ended session) (record { view = tt; quiet = λ none. (refl, refl); pending = tt; xdes = tt; variables = own.variables })
      (λ other ne. ended_apart session (m.sessions other))

  -- of a session whose writes and number stay
  like_sound : (now : SessionState) → now.pending ≡ session.pending → now.xdes ≡ session.xdes → IsSessionSound (length m.past) (db_of m) m.next now → IsSound (with_session m s now)
  like_sound now writes number is =
      session_sound now is
      (λ other ne. record {
        keys = subst (λ (pending : List Write). NameOthers pending (m.sessions other).pending) (sym writes) (apart other ne).keys;
        numbers = subst (λ (xdes : Option ℕ). IfSome xdes (λ x. IfSome (m.sessions other).xdes (λ y. x ≢ y))) (sym number) (apart other ne).numbers;
      })

  -- the number of the entry is that of no other session
  entry_differs : (numbered : Bool) (other : ℕ) → other ≢ s → IfSome (m.sessions other).xdes (λ n. n ≢ (if numbered then xdes_or m.next session.xdes else 0))
  entry_differs numbered other ne =
      number_differs numbered session.xdes (m.sessions other).xdes m.next
      (IfSome_then (m.sessions other).xdes (sound.sessions.each other).xdes (λ n drawn. (drawn.new.0, drawn.below)))
      (apart other ne).numbers

  committed_sound : (act : Act) → Applies (db_of m) (entry_of m session act) → SparesOthers m.sessions s act → IsSound (with_session (committed m session act) s (ended session))
  unfolding apply
  committed_sound act applies spares =
      let entry : Entry = entry_of m session act in
      let later : ℕ = if has_number act then next_xdes m.next session.xdes else m.next in
      let after : replay m.first (m.past ++ entry ∷ []) ≡ apply (db_of m) entry = replay-push m.first m.past entry in
      let rises : max (db_of m).last_xdes (if has_number act then xdes_or m.next session.xdes else 0) < later =
      next_rises (has_number act) session.xdes (db_of m).last_xdes m.next sound.next (IfSome_then session.xdes own.xdes (λ n drawn. drawn.below)) in
      let grown : AreSessionsSound (length m.past + 1) (apply (db_of m) entry) later (replacing m.sessions s (ended session)) =
      replaced m.sessions s (ended session) (length m.past + 1) (apply (db_of m) entry) later within
      (λ other ne. other_after (db_of m) (length m.past) m.next later entry (m.sessions other) (sound_is_valid m sound) applies (next_grows (has_number act) session.xdes m.next) (spares other ne)
      (entry_differs (has_number act) other ne) (sound.sessions.each other))
      (record { view = tt; quiet = λ none. (refl, refl); pending = tt; xdes = tt; variables = own.variables }) sound.sessions.apart (λ other ne. ended_apart session (m.sessions other)) sound.sessions.bytes in
      record {
        first = sound.first;
        entries = ApplyInTurn-push m.first m.past entry sound.entries applies;
        time = rw after (le_refl m.now);
        time_within = sound.time_within;
        next = rw after rises;
        sessions = subst (λ (count : ℕ). AreSessionsSound count (replay m.first (m.past ++ entry ∷ [])) later (replacing m.sessions s (ended session))) (sym (length-push m.past entry))
            (subst (λ (db : Db). AreSessionsSound (length m.past + 1) db later (replacing m.sessions s (ended session))) (sym after) grown);
      }

  pended_sound : (writes : List Write) → MayWait (db_of m) m.sessions s session writes → xdes_or m.next session.xdes ≤ 2 ^ 62
      → IsSound (with_session (record m { next = next_xdes m.next session.xdes }) s (with_pending m writes session))
  pended_sound writes may few =
      let later : ℕ = next_xdes m.next session.xdes in
      let grows : m.next ≤ later = next_grows true session.xdes m.next in
      let others : (other : ℕ) → other ≢ s → IsSessionSound (length m.past) (db_of m) later (m.sessions other) =
      (λ other ne. let was = sound.sessions.each other in
      record {
        view = was.view;
        quiet = was.quiet;
        pending = was.pending;
        xdes = IfSome_then (m.sessions other).xdes was.xdes (λ n drawn. record { below = omega (arith, drawn.below, grows); new = drawn.new });
        variables = was.variables;
      }) in
      record {
        first = sound.first;
        entries = sound.entries;
        time = sound.time;
        time_within = sound.time_within;
        next = omega (arith, sound.next, grows);
        sessions = replaced m.sessions s (with_pending m writes session) (length m.past) (db_of m) later within others
            (record {
              view = own.view;
              quiet = λ none. absurd (may.open_tran none);
              pending = may.applies;
              xdes = number_drawn m session.xdes sound own.xdes few;
              variables = own.variables;
            }) sound.sessions.apart
            (λ other ne. record {
              keys = all_append (λ write. AllByRecursion (NamesOther write) (m.sessions other).pending) session.pending writes (apart other ne).keys (may.free other ne);
              numbers = IfSome_then (m.sessions other).xdes (entry_differs true other ne) (λ n differs same. differs (sym same));
            }) sound.sessions.bytes;
      }

  -- what a decision that is well makes of a sound machine, where a commit applies and writes that wait have a number
  changed_sound : (d : Decision) → IsWell m s session d → ((act : Act) (reply : Reply) → d ≡ Commits act reply → Applies (db_of m) (entry_of m session act))
      → ((writes : List Write) (reply : Reply) → d ≡ Pends writes reply → xdes_or m.next session.xdes ≤ 2 ^ 62) → IsSound (changed m s session d)
  changed_sound (Refuses refusal) well applies few = sound
  changed_sound (Aborts refusal) well applies few = ended_sound
  changed_sound (Answers reply) well applies few = session_sound session own apart
  changed_sound (Commits act reply) well applies few = committed_sound act (applies act reply refl) well.1
  changed_sound (Pends writes reply) well applies few = pended_sound writes well (few writes reply refl)
  changed_sound Begins well applies few =
      like_sound (record session { tran = begun session.snapshot }) refl refl (record {
        view = begun_view session.snapshot (length m.past);
        quiet = λ none. absurd (begun_open session.snapshot none);
        pending = own.pending;
        xdes = own.xdes;
        variables = own.variables;
      })
  changed_sound Ends well applies few = ended_sound
  changed_sound (Isolates snapshot) well applies few =
      like_sound (record session { snapshot = snapshot }) refl refl (record { view = own.view; quiet = own.quiet; pending = own.pending; xdes = own.xdes; variables = own.variables })
  changed_sound (Sets name value) well applies few =
      like_sound (record session { variables = with_value session.variables name value }) refl refl
      (record { view = own.view; quiet = own.quiet; pending = own.pending; xdes = own.xdes; variables = well })
  changed_sound (Declares name kind value) well applies few =
      like_sound (record session { variables = with_variable session.variables name kind value }) refl refl (record {
        view = own.view;
        quiet = own.quiet;
        pending = own.pending;
        xdes = own.xdes;
        variables = added_of_types session.variables name kind value own.variables well;
      })

decided_sound : (m : Machine) (s : ℕ) (what : Command) → IsSound m → s < 256 → CommitsWell m s what → IsSound (machine_after m s what (decision_of m s what))
decided_sound m s what sound within well =
    let before = m.sessions s in
    let settles : IsWell m s before (decision_of m s what) = well_settled m s before (decide m s what) well in
    changed_sound m s (viewed m what before) sound within (viewed_sound m what before (sound.sessions.each s))
    (λ other ne. viewed_apart m what before (m.sessions other) (sound.sessions.apart s other (λ same. ne (sym same)))) (decision_of m s what) (viewed_well m s what before (decision_of m s what) settles)
    (λ act reply e. subst (λ (x : Option ℕ). Applies (db_of m) (record (entry_of m before act) { xdes = if has_number act then xdes_or m.next x else 0 })) (sym (viewed_xdes m what before)) (entries_apply m s what act reply sound well e))
    (λ writes reply e. subst (λ (x : Option ℕ). xdes_or m.next x ≤ 2 ^ 62) (sym (viewed_xdes m what before)) (settled_pends m before (decide m s what) writes reply e))

pub stays_sound : StaysSound
stays_sound m s what reply sound within well =
    elim (is_memory reply) as (λ b. IsSound (cond b m (step m s what).0))
    [ true ↦ sound | false ↦ decided_sound m s what sound within well ]

end_sound : (m : Machine) (journal : List Journaled) → IsSound m → EachCommitsWell m journal → IsSound (end_of m journal)
end_sound m [] sound well = sound
end_sound m (one ∷ more) sound well = end_sound (after m one.session one.what one.reply) more (stays_sound m one.session one.what one.reply sound well.0 well.1) well.2

-- ---- the database that a play began with

decision_first : (m : Machine) (s : ℕ) (session : SessionState) (d : Decision) → (changed m s session d).first ≡ m.first
decision_first m s session (Refuses refusal) = refl
decision_first m s session (Aborts refusal) = refl
decision_first m s session (Answers reply) = refl
decision_first m s session (Commits act reply) = refl
decision_first m s session (Pends writes reply) = refl
decision_first m s session Begins = refl
decision_first m s session Ends = refl
decision_first m s session (Isolates snapshot) = refl
decision_first m s session (Sets name value) = refl
decision_first m s session (Declares name kind value) = refl

after_first : (m : Machine) (s : ℕ) (what : Command) (reply : Reply) → (after m s what reply).first ≡ m.first
after_first m s what reply =
    elim (is_memory reply) as (λ b. (cond b m (step m s what).0).first ≡ m.first)
    [ true ↦ refl | false ↦ decision_first m s (viewed m what (m.sessions s)) (decision_of m s what) ]

end_first : (m : Machine) (journal : List Journaled) → (end_of m journal).first ≡ m.first
end_first m [] = refl
end_first m (one ∷ more) = end_first (after m one.session one.what one.reply) more ∙ after_first m one.session one.what one.reply

pub plays_keep_valid : PlaysKeepValid
plays_keep_valid journal well =
    let sound = end_sound (opening no_db) journal (opens_sound no_db no_db_valid) well in
    (subst (λ db. ApplyInTurn db (end_of (opening no_db) journal).past) (end_first (opening no_db) journal) sound.entries, sound_is_valid (end_of (opening no_db) journal) sound)
