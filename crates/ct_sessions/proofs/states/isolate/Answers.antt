use Rattle.std.proofs.Common.{refl, ap}
use Rattle.ct_session.specs.Sessions.{SessionState, Seated}
use Rattle.ct_sessions.proofs.Seating.{made_at}
use Rattle.ct_sessions.proofs.states.isolate.Goals as goal

pub returns-clause-ok : goal.returns-clause-ok
returns-clause-ok c =
    let seat = c.index_mut-seat.result.now in
    made_at c.args.seats.now.items c.seated.new.seats.items c.args.number c.in_ok-place.place seat (record { session = c.isolate.new.self; own = seat.own })
    (λ (state : SessionState). record state { snapshot = c.args.snapshot }) c.in_ok-place.ensures.same c.in_ok-place.ensures.place c.in_ok-place.ensures.inside c.index_mut-seat.ensures.value
    (ap (λ (it : Seated). it.number) c.isolate.ensures) (ap (λ (it : Seated). it.state) c.isolate.ensures) refl
