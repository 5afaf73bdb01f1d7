use Rattle.std.proofs.Common.{◌≡◌, ◌≤◌, ◌^◌, ℕ, refl, sym, ap, ap₂, subst, ◌∙◌, arith}
use Rattle.ct_session.specs.Sessions.{SessionState}
use Rattle.ct_state.specs.Machine.{Machine, next_xdes, xdes_or}
use Rattle.ct_sessions.specs.Changes.{waiting}
use Rattle.ct_sessions.specs.Owns.{MayView, own_or}
use Rattle.ct_sessions.specs.Seats.{own_in, state_in}
use Rattle.ct_core.specs.Range.{WaitIsKept}
use Rattle.ct_core.specs.Stands.{CoreState, Stands}
use Rattle.ct_core.proofs.Pending.{pended, pended_range, pended_stands, pending_in, stored_there}
use Rattle.ct_core.proofs.Viewing.{turned_may}
use Rattle.ct_core.proofs.core_state.Core.pend.Goals as goal

pub invariant_of-self-2 : goal.invariant_of-self-2
invariant_of-self-2 g c =
    let core : CoreState g.row.D.Denot = record { disk = c.self.inside.disk; db = c.self.inside.db; sessions = c.self.inside.sessions; now = c.self.inside.now; next = c.self.inside.next } in
    let n = c.args.session in
    let m : Machine = c.self.invariant.1.0 in
    let was : Stands core m = c.self.invariant.1.1 in
    let kept = subst (λ (state : CoreState g.row.D.Denot). WaitIsKept (own_or state.db (own_in state.sessions.seats n)) (state_in state.sessions.seats n) c.args.writes c.args.reply) (sym c.self.view_is) c.requires.kept in
    let after : c.number_after-after.result ≡ next_xdes core.next (state_in core.sessions.seats n).xdes = c.number_after-after.ensures ∙ ap (next_xdes core.next) c.xdes-drawn.ensures in
    let room : xdes_or core.next (state_in core.sessions.seats n).xdes ≤ 2 ^ 62 = subst (λ (it : ℕ). it ≤ 2 ^ 62) (c.number_of.ensures ∙ ap (xdes_or core.next) c.xdes-drawn.ensures) (let less = c.if-number_of-gt-MOST_NUMBER.false in omega (arith, less)) in (
      pended_range core.db core.next c.number_after-after.result core.sessions c.pend.new.self n c.args.writes c.self.invariant.0 c.in_ok-pend.ensures.ok (stored_there core m n c.args.writes was kept.stored) room after,
      (pending_in m n c.args.writes, pended_stands core m n c.args.writes c.pend.new.self c.number_after-after.result was c.in_ok-pend.ensures.ok after),
    )

pub view-requires : goal.view-requires
view-requires g c =
    let core = c.self.inside in
    let n = c.args.session in
    turned_may core.sessions c.pend.new.self n (waiting core.next c.args.writes) (λ state. refl) c.in_ok-pend.ensures.ok
    (subst (λ (state : CoreState g.row.D.Denot). MayView state.sessions n) (sym c.self.view_is) c.requires.ready)

pub returns-clause-ok : goal.returns-clause-ok
returns-clause-ok g c =
    λ m stands.
    let core : CoreState g.row.D.Denot = record { disk = c.self.inside.disk; db = c.self.inside.db; sessions = c.self.inside.sessions; now = c.self.inside.now; next = c.self.inside.next } in
    let n = c.args.session in
    let was : Stands core m = subst (λ (state : CoreState g.row.D.Denot). Stands state m) (sym c.self.view_is) stands in
    let drawn : c.xdes-drawn.result ≡ (m.sessions n).xdes = c.xdes-drawn.ensures ∙ ap (λ (state : SessionState). state.xdes) (was.sessions.seats n).state in
    let after : c.number_after-after.result ≡ next_xdes core.next (state_in core.sessions.seats n).xdes = c.number_after-after.ensures ∙ ap (next_xdes core.next) c.xdes-drawn.ensures in
    let room : xdes_or m.next (m.sessions n).xdes ≤ 2 ^ 62 = subst (λ (it : ℕ). it ≤ 2 ^ 62) (c.number_of.ensures ∙ ap₂ xdes_or was.next drawn) (let less = c.if-number_of-gt-MOST_NUMBER.false in omega (arith, less)) in
    let one : Stands (record core { sessions = c.pend.new.self; next = c.number_after-after.result }) (pending_in m n c.args.writes) = pended_stands core m n c.args.writes c.pend.new.self c.number_after-after.result was c.in_ok-pend.ensures.ok after in
    pended c.view.new.self m n c.args.what.now c.args.writes c.args.reply room
    (c.view.ensures.views (pending_in m n c.args.writes) one)
