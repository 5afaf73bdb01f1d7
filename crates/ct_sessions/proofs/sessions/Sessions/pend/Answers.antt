use Rattle.std.proofs.Common.{◌≡◌, true, sym, subst}
use Rattle.std.specs.Option.{IfSome}
use Rattle.std.proofs.lemmas.Result.{on_ok_weaker}
use Rattle.ct_database.specs.Waiting.{AreStoredIn}
use Rattle.ct_session.specs.Sessions.{is_open}
use Rattle.ct_sessions.specs.Changes.{waiting}
use Rattle.ct_sessions.specs.Seats.{SessionsState, own_in, state_in}
use Rattle.ct_sessions.proofs.Soundness.{open_inside, sound_pends}
use Rattle.ct_sessions.proofs.Standing.{turned, waiting_keeps}
use Rattle.ct_sessions.proofs.sessions.Sessions.pend.Goals as goal

pub pend-requires : goal.pend-requires
pend-requires c =
    open_inside c.self.inside.seats.items c.args.number
    (subst (λ (it : SessionsState). is_open (state_in it.seats c.args.number).tran ≡ true) (sym c.self.view_is) c.requires.open)

pub invariant_of-self : goal.invariant_of-self
invariant_of-self c =
    let inside = c.self.inside in
    sound_pends c.pend.result inside.seats.items c.pend.new.seats.items inside.locks c.pend.new.locks inside.since inside.entries c.args.number c.args.next c.args.writes c.self.invariant
    (subst (λ (it : SessionsState). is_open (state_in it.seats c.args.number).tran ≡ true) (sym c.self.view_is) c.requires.open)
    (subst (λ (it : SessionsState). IfSome (own_in it.seats c.args.number) (λ own. AreStoredIn own.db.tables c.args.writes)) (sym c.self.view_is) c.requires.stored)
    c.pend.ensures.ok c.pend.ensures.taken c.pend.ensures.err c.pend.ensures.untaken

pub returns-clause-ok : goal.returns-clause-ok
returns-clause-ok c =
    let inside = c.self.inside in
    rw (← c.self.view_is)
    (on_ok_weaker c.pend.result
    (turned inside.seats.items c.pend.new.seats.items inside.locks c.pend.new.locks inside.later inside.since inside.entries c.args.number (waiting c.args.next c.args.writes)
    (c.self.invariant.each c.args.number) (waiting_keeps c.args.next c.args.writes))
    c.pend.ensures.ok)
