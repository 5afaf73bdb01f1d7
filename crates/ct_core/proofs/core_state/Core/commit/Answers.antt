use Rattle.std.proofs.Common.{◌≡◌, ℕ, Bool, true, cond, List, Option, refl, sym, ap, ap₂, subst, ◌∙◌}
use Rattle.ct_types.specs.declared.command.Command.TheVariants.{Raise}
use Rattle.ct_types.specs.declared.refusal.Refusal.TheVariants.{Exhausted}
use Rattle.ct_session.specs.Sessions.{SessionState, ended}
use Rattle.ct_machine.specs.declared.decision.Decision.{Decision}
use Rattle.ct_machine.specs.declared.decision.Decision.TheVariants.{Commits, Refuses}
use Rattle.ct_state.specs.Machine.{Machine, next_xdes}
use Rattle.ct_machine.specs.Step.{entry_of, has_number, has_room, machine_after, most_number, reply_of, settled}
use Rattle.ct_sessions.specs.Changes.{HasState}
use Rattle.ct_sessions.specs.declared.seat.Seat.{Seat}
use Rattle.ct_sessions.specs.Holds.{with_entry}
use Rattle.ct_sessions.specs.Seats.{state_in}
use Rattle.ct_core.specs.Range.{ActIsKept}
use Rattle.ct_core.specs.Stands.{CoreState, Stands}
use Rattle.ct_core.proofs.Committing.{committed_range, committed_stands}
use Rattle.ct_core.proofs.Ranges.{machine_at, session_with}
use Rattle.ct_core.proofs.Storing.{entry_storable}
use Rattle.ct_core.proofs.core_state.Core.commit.Goals as goal

pub apply-requires : goal.apply-requires
apply-requires g c =
    let core = c.self.inside in
    let kept : ActIsKept core.db c.args.act = subst (λ (state : CoreState g.row.D.Denot). ActIsKept state.db c.args.act) (sym c.self.view_is) c.requires.kept in
    let is : c.entry-entry.result ≡ entry_of (machine_at core.db core.now core.next) (session_with c.xdes-drawn.result) c.args.act = c.entry-entry.ensures (machine_at core.db core.now core.next) (session_with c.xdes-drawn.result) refl refl refl refl in
    entry_storable core.db core.now core.next c.xdes-drawn.result c.args.act c.entry-entry.result kept.storable is

pub invariant_of-self-2 : goal.invariant_of-self-2
invariant_of-self-2 g c =
    let core = c.self.inside in
    let n = c.args.session in
    let m : Machine = c.self.invariant.1.0 in
    let was = c.self.invariant.1.1 in
    let kept : ActIsKept core.db c.args.act = subst (λ (state : CoreState g.row.D.Denot). ActIsKept state.db c.args.act) (sym c.self.view_is) c.requires.kept in
    let is : c.entry-entry.result ≡ entry_of (machine_at core.db core.now core.next) (session_with c.xdes-drawn.result) c.args.act = c.entry-entry.ensures (machine_at core.db core.now core.next) (session_with c.xdes-drawn.result) refl refl refl refl in
    let room : has_room c.entry-entry.result ≡ true = (cc c.if-not-has_room.ensures) in
    let has : HasState core.sessions.seats c.end.new.self.seats n (ended (state_in core.sessions.seats n)) =
    subst (λ (seats : List Seat). HasState seats c.end.new.self.seats n (ended (state_in seats n))) c.commit.ensures.seats c.end.ensures.states in
    let number = c.number_after-self-inside.ensures ∙ ap (λ (test : Bool). cond test (next_xdes core.next c.xdes-drawn.result) core.next) c.has_number-numbered.ensures in
    let drawn : c.xdes-drawn.result ≡ (m.sessions n).xdes = c.xdes-drawn.ensures ∙ ap (λ (state : SessionState). state.xdes) (was.sessions.seats n).state in
    let range =
    committed_range core.db c.apply.new.self core.now core.next c.number_after-self-inside.result core.sessions c.end.new.self n (state_in core.sessions.seats n) c.xdes-drawn.result c.args.act c.entry-entry.result
    c.self.invariant.0 kept is room has c.in_ok-apply.ensures.ok number in
    let holds = c.end.ensures.holds (with_entry m c.entry-entry.result) (c.commit.ensures.holds m c.entry-entry.result c.in_ok-noted.ensures was.sessions) in (
      range,
      (
        _,
        committed_stands _ m n Raise c.args.act c.entry-entry.result c.apply.new.self c.end.new.self c.number_after-self-inside.result was
            (c.entry-entry.ensures m (m.sessions n) was.db was.now was.next drawn) c.in_ok-apply.ensures.ok holds
            (number ∙ ap (λ (it : Option ℕ). cond (has_number c.args.act) (next_xdes core.next it) core.next) drawn),
      ),
    )

pub returns-clause-ok : goal.returns-clause-ok
returns-clause-ok g c =
    λ m what stands.
    let core = c.self.inside in
    let n = c.args.session in
    let was = subst (λ (state : CoreState g.row.D.Denot). Stands state m) (sym c.self.view_is) stands in
    let drawn : c.xdes-drawn.result ≡ (m.sessions n).xdes = c.xdes-drawn.ensures ∙ ap (λ (state : SessionState). state.xdes) (was.sessions.seats n).state in
    let is : c.entry-entry.result ≡ entry_of m (m.sessions n) c.args.act = c.entry-entry.ensures m (m.sessions n) was.db was.now was.next drawn in
    let room : has_room (entry_of m (m.sessions n) c.args.act) ≡ true = ap has_room (sym is) ∙ (cc c.if-not-has_room.ensures) in
    let comes : settled m (m.sessions n) (Commits c.args.act c.args.reply) ≡ Commits c.args.act c.args.reply = ap (λ (test : Bool). cond test (Commits c.args.act c.args.reply) (Refuses (Exhausted most_number))) room in
    let holds = c.end.ensures.holds (with_entry m c.entry-entry.result) (c.commit.ensures.holds m c.entry-entry.result c.in_ok-noted.ensures was.sessions) in
    let number = c.number_after-self-inside.ensures ∙ ap₂ (λ (test : Bool) (it : Option ℕ). cond test (next_xdes core.next it) core.next) c.has_number-numbered.ensures drawn in
    let made = committed_stands _ m n what c.args.act c.entry-entry.result c.apply.new.self c.end.new.self c.number_after-self-inside.result was is c.in_ok-apply.ensures.ok holds number in
    let new : CoreState g.row.D.Denot = record { disk = core.disk; db = c.apply.new.self; sessions = c.end.new.self; now = core.now; next = c.number_after-self-inside.result } in
    record {
      reply = sym (ap reply_of comes);
      stands = subst (λ (d : Decision). Stands new (machine_after m n what d)) (sym comes) made;
    }
