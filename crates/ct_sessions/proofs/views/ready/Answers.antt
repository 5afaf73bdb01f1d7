use Rattle.std.proofs.Common.{◌≡◌, ◌∙◌, false, true, length, vec_len, set, refl, sym, ap, subst, arith}
use Rattle.std.specs.List.{position_or_len}
use Rattle.std.proofs.lemmas.Result.{on_ok_weaker}
use Rattle.ct_database.specs.Waiting.{AreStoredIn}
use Rattle.ct_sessions.specs.Owns.{IsSeatReady}
use Rattle.ct_sessions.specs.Seats.{SeatState, is_of, seat_at, seat_state}
use Rattle.ct_sessions.specs.Sound.{IsSound}
use Rattle.ct_sessions.specs.Steps.{IsPrepared}
use Rattle.ct_sessions.proofs.Seating.{changed_at, seat_was, vacant_past}
use Rattle.ct_sessions.proofs.views.ready.Goals as goal

pub returns-then-len-place-clause-ready : goal.returns-then-len-place-clause-ready
returns-then-len-place-clause-ready c =
    let at : c.place_of-place.result ≡ position_or_len (is_of c.args.number) c.args.seats.now.items = c.place_of-place.ensures ∙ ap (position_or_len (is_of c.args.number)) c.as_slice.ensures.value in
    let count : length c.args.seats.now.items ≡ vec_len c.args.seats.now = sym (ap length c.as_slice.ensures.value) ∙ c.as_slice.ensures.len in
    let none = vacant_past c.args.seats.now.items c.args.number c.place_of-place.result at (omega arith) in
    subst (IsSeatReady c.args.entries) (sym none) (λ needs. absurd (let bad : false ≡ true = needs in cc))

pub make_ready-requires-clause-sound : goal.make_ready-requires-clause-sound
make_ready-requires-clause-sound c =
    let seats = c.args.seats.now.items in
    let at : c.place_of-place.result ≡ position_or_len (is_of c.args.number) c.args.seats.now.items = c.place_of-place.ensures ∙ ap (position_or_len (is_of c.args.number)) c.as_slice.ensures.value in
    let count : length c.args.seats.now.items ≡ vec_len c.args.seats.now = sym (ap length c.as_slice.ensures.value) ∙ c.as_slice.ensures.len in
    let was = seat_was seats seats c.args.number c.place_of-place.result c.index_mut-seat.result.now (λ n. refl) at (omega arith) c.index_mut-seat.ensures.value in
    subst IsSound (sym was) c.requires.sound

pub make_ready-requires-clause-stored : goal.make_ready-requires-clause-stored
make_ready-requires-clause-stored c =
    let seats = c.args.seats.now.items in
    let at : c.place_of-place.result ≡ position_or_len (is_of c.args.number) c.args.seats.now.items = c.place_of-place.ensures ∙ ap (position_or_len (is_of c.args.number)) c.as_slice.ensures.value in
    let count : length c.args.seats.now.items ≡ vec_len c.args.seats.now = sym (ap length c.as_slice.ensures.value) ∙ c.as_slice.ensures.len in
    let was = seat_was seats seats c.args.number c.place_of-place.result c.index_mut-seat.result.now (λ n. refl) at (omega arith) c.index_mut-seat.ensures.value in
    subst (λ (it : SeatState). AreStoredIn c.args.newest.now.tables it.state.pending) (sym was) c.requires.stored

pub returns-clause-others : goal.returns-clause-others
returns-clause-others c =
    let seats = c.args.seats.now.items in
    let at : c.place_of-place.result ≡ position_or_len (is_of c.args.number) c.args.seats.now.items = c.place_of-place.ensures ∙ ap (position_or_len (is_of c.args.number)) c.as_slice.ensures.value in
    let count : length c.args.seats.now.items ≡ vec_len c.args.seats.now = sym (ap length c.as_slice.ensures.value) ∙ c.as_slice.ensures.len in
    let has = changed_at seats seats c.args.number c.place_of-place.result c.index_mut-seat.result.now c.make_ready.new.seat (λ n. refl) at (omega arith) c.index_mut-seat.ensures.value c.make_ready.ensures.number in
    has.others

pub returns-clause-prepared : goal.returns-clause-prepared
returns-clause-prepared c =
    let seats = c.args.seats.now.items in
    let at : c.place_of-place.result ≡ position_or_len (is_of c.args.number) c.args.seats.now.items = c.place_of-place.ensures ∙ ap (position_or_len (is_of c.args.number)) c.as_slice.ensures.value in
    let count : length c.args.seats.now.items ≡ vec_len c.args.seats.now = sym (ap length c.as_slice.ensures.value) ∙ c.as_slice.ensures.len in
    let was = seat_was seats seats c.args.number c.place_of-place.result c.index_mut-seat.result.now (λ n. refl) at (omega arith) c.index_mut-seat.ensures.value in
    let has = changed_at seats seats c.args.number c.place_of-place.result c.index_mut-seat.result.now c.make_ready.new.seat (λ n. refl) at (omega arith) c.index_mut-seat.ensures.value c.make_ready.ensures.number in
    subst (λ (it : SeatState). IsPrepared c.args.newest.now c.args.entries it (seat_at (set seats c.place_of-place.result c.make_ready.new.seat) c.args.number)) was
    (subst (λ (it : SeatState). IsPrepared c.args.newest.now c.args.entries (seat_state c.index_mut-seat.result.now) it) (sym has.it) c.make_ready.ensures.prepared)

pub returns-clause-ready : goal.returns-clause-ready
returns-clause-ready c =
    let seats = c.args.seats.now.items in
    let at : c.place_of-place.result ≡ position_or_len (is_of c.args.number) c.args.seats.now.items = c.place_of-place.ensures ∙ ap (position_or_len (is_of c.args.number)) c.as_slice.ensures.value in
    let count : length c.args.seats.now.items ≡ vec_len c.args.seats.now = sym (ap length c.as_slice.ensures.value) ∙ c.as_slice.ensures.len in
    let has = changed_at seats seats c.args.number c.place_of-place.result c.index_mut-seat.result.now c.make_ready.new.seat (λ n. refl) at (omega arith) c.index_mut-seat.ensures.value c.make_ready.ensures.number in
    on_ok_weaker c.make_ready.result (λ ready. subst (IsSeatReady c.args.entries) (sym has.it) ready) c.make_ready.ensures.ready
