use Rattle.std.proofs.Common.{None, ap, arith}
use Rattle.ct_session.specs.Sessions.{Seated}
use Rattle.ct_sessions.specs.Seats.{SeatState}
use Rattle.ct_sessions.proofs.Seating.{added_to, place_within}
use Rattle.ct_sessions.proofs.seats.seated.Goals as goal

pub returns-in_ok-push-clause-same : goal.returns-in_ok-push-clause-same
returns-in_ok-push-clause-same c =
    let make : Seated → SeatState = λ it. record { state = it.state; own = None } in
    added_to c.args.seats.now.items c.push.new.self.items (record { session = c.in_ok-new.field-0; own = None }) (ap make c.in_ok-new.ensures) c.in_ok-push.ensures.items

pub returns-else-place-len-clause-inside : goal.returns-else-place-len-clause-inside
returns-else-place-len-clause-inside c =
    let most = place_within c.args.number c.args.seats.now.items in
    grind (arith, most)
