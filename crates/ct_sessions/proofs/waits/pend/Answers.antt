use Rattle.std.proofs.Common.{◌≡◌, ◌<◌, ◌∙◌, Option, length, refl, sym, ap, subst}
use Rattle.std.specs.List.{position_or_len}
use Rattle.std.proofs.lemmas.Result.{on_ok_weaker, on_err_weaker}
use Rattle.ct_locks.specs.Changes.{with_writes_taken}
use Rattle.ct_session.specs.Sessions.{SessionState}
use Rattle.ct_sessions.specs.declared.own.Own.{Own}
use Rattle.ct_sessions.specs.Changes.{waiting}
use Rattle.ct_sessions.specs.Seats.{is_of}
use Rattle.ct_sessions.proofs.Seating.{kept_at, made_at, number_at}
use Rattle.ct_sessions.proofs.waits.pend.Goals as goal

pub returns-clause-ok : goal.returns-clause-ok
returns-clause-ok c =
    let seats = c.args.seats.now.items in
    let at : c.place_of-place.result ≡ position_or_len (is_of c.args.number) c.args.seats.now.items = c.place_of-place.ensures ∙ ap (position_or_len (is_of c.args.number)) c.as_slice.ensures.value in
    let inside : c.place_of-place.result < length c.args.seats.now.items = subst (λ place. place < length c.args.seats.now.items) (sym at) c.requires in
    on_ok_weaker c.pend_writes.result
    (λ state. made_at seats seats c.args.number c.place_of-place.result c.index_mut-seat.result.now c.pend_writes.new.seat (waiting c.args.next c.args.writes) (λ n. refl) at inside
    c.index_mut-seat.ensures.value c.pend_writes.ensures.number state c.pend_writes.ensures.own)
    c.pend_writes.ensures.ok

pub returns-clause-taken : goal.returns-clause-taken
returns-clause-taken c =
    let at : c.place_of-place.result ≡ position_or_len (is_of c.args.number) c.args.seats.now.items = c.place_of-place.ensures ∙ ap (position_or_len (is_of c.args.number)) c.as_slice.ensures.value in
    let inside : c.place_of-place.result < length c.args.seats.now.items = subst (λ place. place < length c.args.seats.now.items) (sym at) c.requires in
    on_ok_weaker c.pend_writes.result
    (λ taken. taken ∙ ap (λ number. with_writes_taken c.args.locks.now number c.args.writes)
    (number_at c.args.seats.now.items c.args.number c.place_of-place.result c.index_mut-seat.result.now at inside c.index_mut-seat.ensures.value))
    c.pend_writes.ensures.taken

pub returns-clause-err : goal.returns-clause-err
returns-clause-err c =
    let seats = c.args.seats.now.items in
    let seat = c.index_mut-seat.result.now in
    let made = c.pend_writes.new.seat in
    let at : c.place_of-place.result ≡ position_or_len (is_of c.args.number) c.args.seats.now.items = c.place_of-place.ensures ∙ ap (position_or_len (is_of c.args.number)) c.as_slice.ensures.value in
    let inside : c.place_of-place.result < length c.args.seats.now.items = subst (λ place. place < length c.args.seats.now.items) (sym at) c.requires in
    on_err_weaker c.pend_writes.result
    (λ state. kept_at seats seats c.args.number c.place_of-place.result seat made (λ n. refl) at inside c.index_mut-seat.ensures.value c.pend_writes.ensures.number
    (ap (λ (it : SessionState). record { state = it; own = made.own }) state ∙ ap (λ (it : Option Own). record { state = seat.session.state; own = it }) c.pend_writes.ensures.own))
    c.pend_writes.ensures.err
