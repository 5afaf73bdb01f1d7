use Rattle.std.proofs.Common.{◌∙◌, refl, ap, not}
use Rattle.ct_types.specs.declared.refusal.Refusal.TheVariants.{VariableExists}
use Rattle.ct_bind_names.specs.Catalogue.{is_declared}
use Rattle.ct_session.specs.SetDeclare.{with_variable}
use Rattle.ct_session.specs.Sessions.{SessionState, Seated}
use Rattle.ct_sessions.specs.Seats.{SeatState}
use Rattle.ct_sessions.proofs.Seating.{made_at, met_but_memory, seat_was}
use Rattle.ct_sessions.proofs.states.declare.Goals as goal

pub only_memory-requires : goal.only_memory-requires
only_memory-requires c =
    let seat = c.index_mut-seat.result.now in
    let was = seat_was c.args.seats.now.items c.seated.new.seats.items c.args.number c.in_ok-place.place seat c.in_ok-place.ensures.same c.in_ok-place.ensures.place c.in_ok-place.ensures.inside c.index_mut-seat.ensures.value in
    met_but_memory (not (is_declared seat.session.state.variables c.args.name)) (VariableExists c.args.name) c.in-Err.refusal
    (ap not (ap (λ (it : SeatState). is_declared it.state.variables c.args.name) was ∙ c.requires)) c.in-Err.ensures.answers

pub returns-in-Ok-clause-ok : goal.returns-in-Ok-clause-ok
returns-in-Ok-clause-ok c =
    let seat = c.index_mut-seat.result.now in
    made_at c.args.seats.now.items c.seated.new.seats.items c.args.number c.in_ok-place.place seat (record { session = c.declare.new.self; own = seat.own })
    (λ (state : SessionState). record state { variables = with_variable state.variables c.args.name c.args.kind c.args.value })
    c.in_ok-place.ensures.same c.in_ok-place.ensures.place c.in_ok-place.ensures.inside c.index_mut-seat.ensures.value
    (ap (λ (it : Seated). it.number) c.in-Ok.ensures.ok) (ap (λ (it : Seated). it.state) c.in-Ok.ensures.ok) refl
