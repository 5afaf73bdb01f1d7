-- The seats of sessions, when one is added or changed.
use Rattle.std.proofs.Common.{◌≡◌, ◌≢◌, Ok, Err, ℕ, ◌==◌, ◌<◌, ◌≤◌, Bool, true, false, cond, List, [], ◌∷◌, ◌++◌, length, find, get_or, set, Option, None, Some, not, nat_lt, unwrap_or, refl, sym, ap, subst, ◌∙◌, eqb-true, eq-eqb, arith}
use Rattle.std.specs.List.{position, position_or_len, slice_get}
use Rattle.std.proofs.lemmas.Bool.Decides.{nat_tests}
use Rattle.std.proofs.lemmas.List.Folds.{find_at, find-set, find_past}
use Rattle.std.proofs.lemmas.List.Sums.{passes_at_first, prefix_len-le-length}
use Rattle.std.proofs.lemmas.Option.{slice_get-get_or}
use Rattle.ct_types.specs.Answers.{demand}
use Rattle.ct_types.specs.declared.refusal.Refusal.{Refusal}
use Rattle.ct_types.specs.declared.refusal.Refusal.TheVariants.{Memory}
use Rattle.ct_session.specs.Sessions.{SessionState}
use Rattle.ct_sessions.specs.declared.own.Own.{Own}
use Rattle.ct_sessions.specs.declared.seat.Seat.{Seat}
use Rattle.ct_sessions.specs.Seats.{SeatState, is_of, seat_at, seat_state, state_or_vacant, vacant}
use Rattle.ct_sessions.specs.Steps.{HasSeat, HaveSeats, TurnsSeat}

-- the place that is found, or else the one behind the last
pub place_or_length : {X : Type 0} (p : X → Bool) (xs : List X) → unwrap_or (position p xs) (length xs) ≡ position_or_len p xs
place_or_length p xs = by (nat_lt (position_or_len p xs) (length xs)) refl
  where
    by : (b : Bool) → b ≡ nat_lt (position_or_len p xs) (length xs) → unwrap_or (cond b (Some (position_or_len p xs)) None) (length xs) ≡ position_or_len p xs
    by true inside = refl
    by false past =
        let most = prefix_len-le-length (λ x. not (p x)) xs in
        grind (arith, nat_tests)

-- ---- a session is added

-- one that is as it starts, behind the others, changes none
added : (seats : List Seat) (seat : Seat) → seat_state seat ≡ vacant → HaveSeats seats (seats ++ seat ∷ [])
added [] seat is other = by (is_of other seat)
  where
    by : (test : Bool) → state_or_vacant (cond test (Some seat) None) ≡ vacant
    by true = is
    by false = refl
added (first ∷ seats) seat is other = by (is_of other first) (added seats seat is other)
  where
    by : (test : Bool) → seat_at (seats ++ seat ∷ []) other ≡ seat_at seats other
        → state_or_vacant (cond test (Some first) (find (is_of other) (seats ++ seat ∷ []))) ≡ state_or_vacant (cond test (Some first) (find (is_of other) seats))
    by true later = refl
    by false later = later

pub added_to : (old new : List Seat) (seat : Seat) → seat_state seat ≡ vacant → new ≡ old ++ seat ∷ [] → HaveSeats old new
added_to old new seat is made = subst (HaveSeats old) (sym made) (added old seat is)

-- a place is at most the one behind the last
pub place_within : (number : ℕ) (seats : List Seat) → position_or_len (is_of number) seats ≤ length seats
place_within number seats = prefix_len-le-length (λ (seat : Seat). not (is_of number seat)) seats

-- ---- where a session is, or is not

-- a session that is not there is vacant
pub vacant_past : (seats : List Seat) (number place : ℕ) → place ≡ position_or_len (is_of number) seats → length seats ≤ place → seat_at seats number ≡ vacant
vacant_past seats number place at past =
    let most = place_within number seats in
    let end : position_or_len (is_of number) seats ≡ length seats = omega (arith, at) in
    ap state_or_vacant (find_at (is_of number) seats ∙ ap (slice_get seats) end ∙ none_past seats)
  where
    none_past : (seats : List Seat) → slice_get seats (length seats) ≡ None
    none_past [] = refl
    none_past (seat ∷ seats) = none_past seats

-- the session at the place of a number is that of the number
seat_found : (seats : List Seat) (number place : ℕ) (seat : Seat) → place ≡ position_or_len (is_of number) seats → place < length seats → seat ≡ get_or seats place seat
    → seat_at seats number ≡ seat_state seat
seat_found seats number place seat at inside is =
    let found : find (is_of number) seats ≡ Some seat =
    find_at (is_of number) seats ∙ ap (slice_get seats) (sym at) ∙ slice_get-get_or seats place seat inside ∙ ap (λ (it : Seat). Some it) (sym is) in
    ap state_or_vacant found

-- ---- a session is changed

-- the session at the place of a number has it
number_passes : (seats : List Seat) (number place : ℕ) (seat : Seat) → place ≡ position_or_len (is_of number) seats → place < length seats → seat ≡ get_or seats place seat
    → is_of number seat ≡ true
number_passes seats number place seat at inside is =
    subst (λ (it : Seat). is_of number it ≡ true) (ap (λ i. get_or seats i seat) (sym at) ∙ sym is) (passes_at_first (is_of number) seats seat (omega (arith, at)))

pub number_at : (seats : List Seat) (number place : ℕ) (seat : Seat) → place ≡ position_or_len (is_of number) seats → place < length seats → seat ≡ get_or seats place seat
    → seat.session.number ≡ number
number_at seats number place seat at inside is = eqb-true seat.session.number number (number_passes seats number place seat at inside is)

-- another session at the place of a number is that of the number, and each other as it was
pub changed_at : (old seats : List Seat) (number place : ℕ) (seat new : Seat) → HaveSeats old seats
    → place ≡ position_or_len (is_of number) seats → place < length seats → seat ≡ get_or seats place seat → new.session.number ≡ seat.session.number
    → HasSeat old (set seats place new) number (seat_state new)
changed_at old seats number place seat new same at inside is keeps = record { it = here; others = λ other apart. there other apart }
  where
    numbered : is_of number seat ≡ true
    numbered = number_passes seats number place seat at inside is

    here : seat_at (set seats place new) number ≡ seat_state new
    here =
        let passes : is_of number new ≡ true = ap (λ n. n == number) keeps ∙ numbered in
        ap state_or_vacant (find-set (is_of number) seats place new at inside passes)

    there : (other : ℕ) → other ≢ number → seat_at (set seats place new) other ≡ seat_at old other
    there other apart =
        let test : (number == other) ≡ false = grind (arith, nat_tests) in
        let fails : is_of other seat ≡ false = ap (λ n. n == other) (number_at seats number place seat at inside is) ∙ test in
        let was : is_of other (get_or seats place seat) ≡ false = ap (is_of other) (sym is) ∙ fails in
        let now : is_of other new ≡ false = ap (λ n. n == other) keeps ∙ fails in
        ap state_or_vacant (find_past (is_of other) seats place new seat was now) ∙ same other

-- the session at the place is what that of its number was
pub seat_was : (old seats : List Seat) (number place : ℕ) (seat : Seat) → HaveSeats old seats
    → place ≡ position_or_len (is_of number) seats → place < length seats → seat ≡ get_or seats place seat → seat_state seat ≡ seat_at old number
seat_was old seats number place seat same at inside is = sym (seat_found seats number place seat at inside is) ∙ same number

-- another session, which is made of the one that was there
pub turned_at : (old seats : List Seat) (number place : ℕ) (seat new : Seat) (turn : SeatState → SeatState) → HaveSeats old seats
    → place ≡ position_or_len (is_of number) seats → place < length seats → seat ≡ get_or seats place seat
    → new.session.number ≡ seat.session.number → seat_state new ≡ turn (seat_state seat) → HasSeat old (set seats place new) number (turn (seat_at old number))
turned_at old seats number place seat new turn same at inside is numbered made =
    subst (HasSeat old (set seats place new) number) (made ∙ ap turn (seat_was old seats number place seat same at inside is))
    (changed_at old seats number place seat new same at inside is numbered)

-- another state, which is made of the one that it had
pub made_at : (old seats : List Seat) (number place : ℕ) (seat new : Seat) (make : SessionState → SessionState) → HaveSeats old seats
    → place ≡ position_or_len (is_of number) seats → place < length seats → seat ≡ get_or seats place seat
    → new.session.number ≡ seat.session.number → new.session.state ≡ make seat.session.state → new.own ≡ seat.own → TurnsSeat old (set seats place new) number make
made_at old seats number place seat new make same at inside is numbered state own =
    turned_at old seats number place seat new (λ (it : SeatState). record { state = make it.state; own = it.own }) same at inside is numbered
    (ap (λ (it : SessionState). record { state = it; own = new.own }) state ∙ ap (λ (it : Option Own). record { state = make seat.session.state; own = it }) own)

-- no session is changed, and that of a number is so already
pub unmoved : (seats : List Seat) (number : ℕ) (seat : SeatState) → seat_at seats number ≡ seat → HasSeat seats seats number seat
unmoved seats number seat is = record { it = is; others = λ other apart. refl }

-- ---- of each number

-- what holds of one number, and of each other, holds of all
pub by_number : (P : ℕ → Type 0) (number : ℕ) → P number → ((other : ℕ) → other ≢ number → P other) → (other : ℕ) → P other
by_number P number here there other = by (other == number) refl
  where
    by : (test : Bool) → test ≡ (other == number) → P other
    by true e = subst P (sym (eqb-true other number (sym e))) here
    by false e = there other (λ same. let bad : false ≡ true = e ∙ eq-eqb other number same in cc)

-- a session that is as it was at its place leaves each as it was
pub kept_at : (old seats : List Seat) (number place : ℕ) (seat new : Seat) → HaveSeats old seats
    → place ≡ position_or_len (is_of number) seats → place < length seats → seat ≡ get_or seats place seat
    → new.session.number ≡ seat.session.number → seat_state new ≡ seat_state seat → HaveSeats old (set seats place new)
kept_at old seats number place seat new same at inside is numbered made =
    let has = turned_at old seats number place seat new (λ (it : SeatState). it) same at inside is numbered made in
    by_number (λ other. seat_at (set seats place new) other ≡ seat_at old other) number has.it has.others

-- ---- a demand that is met

-- it is refused for want of memory alone
pub met_but_memory : (test : Bool) (cause refusal : Refusal) → test ≡ true → (refusal ≢ Memory → demand test cause ≡ Err refusal) → (refusal ≢ Memory) → ⊥
met_but_memory test cause refusal holds gives other =
    let passed : demand test cause ≡ Ok tt = ap (λ b. demand b cause) holds in
    let refused : demand test cause ≡ Err refusal = gives other in
    cc
