use Rattle.std.proofs.Common.{◌≡◌, ◌∙◌, None, length, vec_len, refl, sym, ap, arith}
use Rattle.std.specs.List.{position_or_len}
use Rattle.ct_session.specs.Sessions.{Seated, ended}
use Rattle.ct_sessions.specs.Seats.{SeatState, is_of}
use Rattle.ct_sessions.proofs.Seating.{turned_at, unmoved, vacant_past}
use Rattle.ct_sessions.proofs.states.end.Goals as goal

pub returns-then-place-len : goal.returns-then-place-len
returns-then-place-len c =
    let seats = c.args.seats.now.items in
    let seat = c.index_mut-seat.result.now in
    let at : c.place_of-place.result ≡ position_or_len (is_of c.args.number) c.args.seats.now.items = c.place_of-place.ensures ∙ ap (position_or_len (is_of c.args.number)) c.as_slice.ensures.value in
    let count : length c.args.seats.now.items ≡ vec_len c.args.seats.now = sym (ap length c.as_slice.ensures.value) ∙ c.as_slice.ensures.len in
    turned_at seats seats c.args.number c.place_of-place.result seat (record { session = c.end.new.self; own = None })
    (λ (it : SeatState). record { state = ended it.state; own = None }) (λ n. refl) at (omega arith) c.index_mut-seat.ensures.value
    (ap (λ (it : Seated). it.number) c.end.ensures) (ap (λ (it : Seated). record { state = it.state; own = None }) c.end.ensures)

pub returns-else-place-len : goal.returns-else-place-len
returns-else-place-len c =
    let seats = c.args.seats.now.items in
    let at : c.place_of-place.result ≡ position_or_len (is_of c.args.number) c.args.seats.now.items = c.place_of-place.ensures ∙ ap (position_or_len (is_of c.args.number)) c.as_slice.ensures.value in
    let count : length c.args.seats.now.items ≡ vec_len c.args.seats.now = sym (ap length c.as_slice.ensures.value) ∙ c.as_slice.ensures.len in
    let none = vacant_past seats c.args.number c.place_of-place.result at (omega arith) in
    unmoved seats c.args.number _ (none ∙ sym (ap (λ (it : SeatState). record { state = ended it.state; own = None }) none))
