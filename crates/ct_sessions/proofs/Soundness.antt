-- What keeps a session sound, and all of them.
use Rattle.std.proofs.Common.{◌≡◌, ℕ, ◌<◌, ◌≤◌, ◌+◌, nat_lt, Bool, true, false, cond, ◌||◌, List, [], ◌∷◌, ◌++◌, length, map, find, Option, Some, None, Result, Ok, Err, OnOk, OnErr, refl, sym, ap, subst, ◌∙◌, length-append, arith}
use Rattle.std.specs.List.{position_or_len}
use Rattle.std.proofs.lemmas.Bool.{ltb-true, ltb-false}
use Rattle.std.proofs.lemmas.List.{map-append}
use Rattle.std.specs.Option.{IfSome}
use Rattle.ct_types.specs.declared.entry.Write.{Write}
use Rattle.ct_types.proofs.Lists.{all_append}
use Rattle.ct_database.specs.Waiting.{AreStoredIn, IsStoredIn}
use Rattle.ct_locks.specs.Changes.{lock_of_write, with_writes_taken, without_session}
use Rattle.ct_locks.specs.Holders.{Lock, locks_of}
use Rattle.ct_session.specs.Sessions.{SessionState, ended, is_open}
use Rattle.ct_session.specs.declared.tran.Tran.{Tran}
use Rattle.ct_session.specs.declared.tran.Tran.TheVariants as tran
use Rattle.ct_sessions.specs.declared.own.Own.{Own}
use Rattle.ct_sessions.specs.declared.seat.Seat.{Seat}
use Rattle.ct_sessions.specs.Changes.{waiting}
use Rattle.ct_sessions.specs.Owns.{IsOwnOf}
use Rattle.ct_sessions.specs.Seats.{SeatState, any_view, has_view, has_writes, is_of, is_snapshot, seat_at, state_in, state_or_vacant}
use Rattle.ct_sessions.specs.Sound.{AreSound, IsSound, ViewsFrom}
use Rattle.ct_sessions.specs.Steps.{HasSeat, HaveSeats, TurnsSeat}
use Rattle.ct_sessions.proofs.Locked.{released_other, released_own, taken_other, taken_own}
use Rattle.ct_sessions.proofs.Seating.{by_number, vacant_past}

true_not_false : {X : Type 0} → true ≡ false → X
true_not_false e = absurd (let bad : true ≡ false = e in cc)

-- ---- one session

has_none : (pending writes : List Write) → has_writes (pending ++ writes) ≡ false → has_writes pending ≡ false
has_none [] writes none = refl
has_none (write ∷ more) writes none = none

needs_less : (it : Tran) (pending writes : List Write) → (is_snapshot it || has_writes (pending ++ writes)) ≡ false → (is_snapshot it || has_writes pending) ≡ false
needs_less it pending writes none = by (is_snapshot it) none
  where
    by : (test : Bool) → (test || has_writes (pending ++ writes)) ≡ false → (test || has_writes pending) ≡ false
    by true e = e
    by false e = has_none pending writes e

more_own : (own : Option Own) (pending writes : List Write) → IfSome own (IsOwnOf pending) → IfSome own (λ it. AreStoredIn it.db.tables writes) → IfSome own (IsOwnOf (pending ++ writes))
more_own None pending writes is stored = tt
more_own (Some own) pending writes is stored = record {
  written = let within = is.written in rw (length-append pending writes) (omega arith);
  stored = all_append (IsStoredIn own.db.tables) pending writes is.stored stored;
}

-- more writes that wait in a transaction
sound_waiting : (seat : SeatState) → IsSound seat → (next : ℕ) (writes : List Write) → is_open seat.state.tran ≡ true → IfSome seat.own (λ own. AreStoredIn own.db.tables writes)
    → IsSound (record { state = waiting next writes seat.state; own = seat.own })
sound_waiting seat sound next writes opened stored = record {
  idle = λ closed. true_not_false (sym opened ∙ closed);
  needed = λ none. sound.needed (needs_less seat.state.tran seat.state.pending writes none);
  viewed = sound.viewed;
  own = more_own seat.own seat.state.pending writes sound.own stored;
}

-- a transaction that ends
sound_ended : (state : SessionState) → IsSound (record { state = ended state; own = None })
sound_ended state = record {
  idle = λ closed. record { pending = refl; xdes = refl };
  needed = λ none. refl;
  viewed = tt;
  own = tt;
}

-- ---- views

-- without a view, from any count on
views_none : (since : ℕ) (it : Tran) → has_view it ≡ false → ViewsFrom since it
views_none since (tran.Viewed view) none = true_not_false none
views_none since tran.None none = tt
views_none since tran.Committed none = tt
views_none since tran.Snapshot none = tt

neither : (a b : Bool) → (a || b) ≡ false → (a ≡ false) × (b ≡ false)
neither true b e = true_not_false e
neither false b e = (refl, e)

no_view_at : (number : ℕ) (seats : List Seat) → any_view seats ≡ false → has_view (state_in seats number).tran ≡ false
no_view_at number [] none = refl
no_view_at number (seat ∷ seats) none =
    let both = neither (has_view seat.session.state.tran) (any_view seats) none in
    let step : (test : Bool) → has_view (state_or_vacant (cond test (Some seat) (find (is_of number) seats))).state.tran ≡ false = elim [ true ↦ both.0 | false ↦ no_view_at number seats both.1 ] in
    step (is_of number seat)

-- where no session has a view, each from any count on; else as before
views_since : (seats : List Seat) (since since' : ℕ) (all : (number : ℕ) → ViewsFrom since (state_in seats number).tran) → (any_view seats ≡ true → since' ≡ since)
    → (number : ℕ) → ViewsFrom since' (state_in seats number).tran
views_since seats since since' all kept number = by (any_view seats) refl
  where
    by : (test : Bool) → any_view seats ≡ test → ViewsFrom since' (state_in seats number).tran
    by true some = subst (λ n. ViewsFrom n (state_in seats number).tran) (sym (kept some)) (all number)
    by false none = views_none since' (state_in seats number).tran (no_view_at number seats none)

-- ---- all sessions

-- one is changed
sound_with : (olds news : List Seat) (locks locks' : List Lock) (since entries number : ℕ) (seat : SeatState) → AreSound olds locks since entries → HasSeat olds news number seat
    → IsSound seat → ViewsFrom since seat.state.tran → ((other : ℕ) → locks_of locks' other ≡ map (lock_of_write other) (state_in news other).pending) → AreSound news locks' since entries
sound_with olds news locks locks' since entries number seat sound has is views held = record {
  each = by_number (λ other. IsSound (seat_at news other)) number (subst IsSound (sym has.it) is) (λ other apart. subst IsSound (sym (has.others other apart)) (sound.each other));
  views = by_number (λ other. ViewsFrom since (state_in news other).tran) number (subst (λ (it : SeatState). ViewsFrom since it.state.tran) (sym has.it) views)
      (λ other apart. subst (λ (it : SeatState). ViewsFrom since it.state.tran) (sym (has.others other apart)) (sound.views other));
  known = sound.known;
  held = held;
}

-- none is
sound_kept : (olds news : List Seat) (locks : List Lock) (since entries : ℕ) → AreSound olds locks since entries → HaveSeats olds news → AreSound news locks since entries
sound_kept olds news locks since entries sound same = record {
  each = λ number. subst IsSound (sym (same number)) (sound.each number);
  views = λ number. subst (λ (it : SeatState). ViewsFrom since it.state.tran) (sym (same number)) (sound.views number);
  known = sound.known;
  held = λ number. sound.held number ∙ ap (λ (it : SeatState). map (lock_of_write number) it.state.pending) (sym (same number));
}

-- writes of one wait and their keys are taken, or for want of memory none
pub sound_pends : {U E : Type 0} (r : Result U E) (olds news : List Seat) (locks locks' : List Lock) (since entries number next : ℕ) (writes : List Write) → AreSound olds locks since entries
    → is_open (state_in olds number).tran ≡ true → IfSome (seat_at olds number).own (λ own. AreStoredIn own.db.tables writes)
    → OnOk r (TurnsSeat olds news number (waiting next writes)) → OnOk r (locks' ≡ with_writes_taken locks number writes) → OnErr r (HaveSeats olds news) → OnErr r (locks' ≡ locks)
    → AreSound news locks' since entries
sound_pends (Ok u) olds news locks locks' since entries number next writes sound opened stored ok taken err untaken =
    let seat = seat_at olds number in
    let made : SeatState = record { state = waiting next writes (seat_at olds number).state; own = (seat_at olds number).own } in
    sound_with olds news locks locks' since entries number made sound ok (sound_waiting seat (sound.each number) next writes opened stored) (sound.views number)
    (by_number (λ other. locks_of locks' other ≡ map (lock_of_write other) (state_in news other).pending) number
    (ap (λ (it : List Lock). locks_of it number) taken ∙ taken_own locks number writes ∙ ap (λ (it : List Lock). it ++ map (lock_of_write number) writes) (sound.held number)
    ∙ sym (map-append (lock_of_write number) seat.state.pending writes) ∙ ap (λ (it : SeatState). map (lock_of_write number) it.state.pending) (sym ok.it))
    (λ other apart. ap (λ (it : List Lock). locks_of it other) taken ∙ taken_other locks number writes other apart ∙ sound.held other
    ∙ ap (λ (it : SeatState). map (lock_of_write other) it.state.pending) (sym (ok.others other apart))))
sound_pends (Err e) olds news locks locks' since entries number next writes sound opened stored ok taken err untaken =
    subst (λ (it : List Lock). AreSound news it since entries) (sym untaken) (sound_kept olds news locks since entries sound err)

-- a transaction of one ends, and it lets go of its keys; what is known of entries may be known from a later count on
pub sound_ends : (olds news : List Seat) (locks locks' : List Lock) (since since' entries number : ℕ) → AreSound olds locks since entries
    → HasSeat olds news number (record { state = ended (state_in olds number); own = None }) → locks' ≡ without_session locks number
    → (any_view news ≡ true → since' ≡ since) → since' ≤ entries → AreSound news locks' since' entries
sound_ends olds news locks locks' since since' entries number sound has released kept known =
    let made : SeatState = record { state = ended (state_in olds number); own = None } in
    let now = sound_with olds news locks locks' since entries number made sound has (sound_ended (state_in olds number)) tt
    (by_number (λ other. locks_of locks' other ≡ map (lock_of_write other) (state_in news other).pending) number
    (ap (λ (it : List Lock). locks_of it number) released ∙ released_own locks number ∙ ap (λ (it : SeatState). map (lock_of_write number) it.state.pending) (sym has.it))
    (λ other apart. ap (λ (it : List Lock). locks_of it other) released ∙ released_other locks number other apart ∙ sound.held other
    ∙ ap (λ (it : SeatState). map (lock_of_write other) it.state.pending) (sym (has.others other apart)))) in
    record { each = now.each; views = views_since news since since' now.views kept; known = known; held = now.held }

-- one entry more is counted
pub sound_counts : (seats : List Seat) (locks : List Lock) (since since' entries : ℕ) → AreSound seats locks since entries → (any_view seats ≡ true → since' ≡ since) → since' ≤ entries + 1
    → AreSound seats locks since' (entries + 1)
sound_counts seats locks since since' entries sound kept known = record { each = sound.each; views = views_since seats since since' sound.views kept; known = known; held = sound.held }

-- a session in a transaction is there
pub open_inside : (seats : List Seat) (number : ℕ) → is_open (state_in seats number).tran ≡ true → position_or_len (is_of number) seats < length seats
open_inside seats number opened =
    let place : ℕ = position_or_len (is_of number) seats in
    let step : (b : Bool) → b ≡ nat_lt (position_or_len (is_of number) seats) (length seats) → position_or_len (is_of number) seats < length seats =
    elim [
      | true ↦ (λ e. ltb-true (position_or_len (is_of number) seats) (length seats) (sym e))
      | false ↦
          (λ e. let none = vacant_past seats number (position_or_len (is_of number) seats) refl (ltb-false (position_or_len (is_of number) seats) (length seats) (sym e)) in
          true_not_false (sym opened ∙ ap (λ (it : SeatState). is_open it.state.tran) none))
    ] in
    step (nat_lt (position_or_len (is_of number) seats) (length seats)) refl
