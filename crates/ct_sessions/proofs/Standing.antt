-- For which machines sessions stand, once one of them is changed, or an entry is committed.
use Rattle.std.proofs.Common.{◌≡◌, ℕ, ◌==◌, ◌≤◌, ◌+◌, Bool, true, false, cond, List, [], ◌∷◌, ◌++◌, length, take, Option, Some, None, refl, sym, ap, subst, ◌∙◌, eqb-true, eq-eqb, length-append, arith}
use Rattle.std.specs.Option.{IfSome}
use Rattle.std.proofs.lemmas.List.{take-append-le}
use Rattle.ct_types.specs.declared.entry.Entry.{Entry}
use Rattle.ct_types.specs.declared.entry.Write.{Write}
use Rattle.ct_model.specs.declared.db.Db.{Db}
use Rattle.ct_model.specs.Apply.{replay}
use Rattle.ct_conflicts.specs.Later.{IsLater}
use Rattle.ct_conflicts.specs.declared.stamps.TableStamps.{TableStamps}
use Rattle.ct_locks.specs.Holders.{Lock}
use Rattle.ct_session.specs.Sessions.{SessionState}
use Rattle.ct_state.specs.Machine.{Machine, db_at, with_session}
use Rattle.ct_state.specs.Seen.{with_writes}
use Rattle.ct_sessions.specs.declared.own.Own.{Own}
use Rattle.ct_sessions.specs.declared.seat.Seat.{Seat}
use Rattle.ct_sessions.specs.Changes.{HasState, Turns, waiting}
use Rattle.ct_sessions.specs.Laws.{HoldsForAlike}
use Rattle.ct_sessions.specs.Holds.{Holds, IsSeatOf, with_entry}
use Rattle.ct_sessions.specs.Owns.{IsOwnOf, IsShareOf}
use Rattle.ct_sessions.specs.Seats.{SeatState, SessionsState, any_view, own_in, seat_at, state_in}
use Rattle.ct_sessions.specs.Sound.{IsSound}
use Rattle.ct_sessions.specs.Steps.{HasSeat, TurnsSeat}
use Rattle.ct_sessions.proofs.Seating.{by_number}
use Rattle.ct_sessions.proofs.Shares.{still_at}

-- ---- what is told of states

states_with : (olds news : List Seat) (number : ℕ) (seat : SeatState) → HasSeat olds news number seat → HasState olds news number seat.state
states_with olds news number seat has other = by (other == number) refl
  where
    by : (test : Bool) → test ≡ (other == number) → state_in news other ≡ cond test seat.state (state_in olds other)
    by true e = ap (state_in news) (eqb-true other number (sym e)) ∙ ap (λ (it : SeatState). it.state) has.it
    by false e = ap (λ (it : SeatState). it.state) (has.others other (λ same. let bad : false ≡ true = e ∙ eq-eqb other number same in cc))

owns_with : (olds news : List Seat) (number : ℕ) (seat : SeatState) → HasSeat olds news number seat → seat.own ≡ own_in olds number → (other : ℕ) → own_in news other ≡ own_in olds other
owns_with olds news number seat has own =
    by_number (λ other. own_in news other ≡ own_in olds other) number (ap (λ (it : SeatState). it.own) has.it ∙ own) (λ other apart. ap (λ (it : SeatState). it.own) (has.others other apart))

-- ---- machines that are alike

module _ (m other : Machine) (first : m.first ≡ other.first) (past : m.past ≡ other.past) where
  share_alike : (pending : List Write) (own : Option Own) → IfSome own (IsShareOf m pending) → IfSome own (IsShareOf other pending)
  share_alike pending None is = tt
  share_alike pending (Some own) is = record {
    within = subst (λ (entries : List Entry). own.at ≤ length entries) past is.within;
    db = is.db ∙ (λ i. with_writes (replay (first i) (take own.at (past i))) (take own.written pending));
  }

  seat_alike : (state state' : SessionState) (seat : SeatState) → state ≡ state' → IsSeatOf m state seat → IsSeatOf other state' seat
  seat_alike state state' seat same is = record {
    state = is.state ∙ same;
    own = subst (λ (it : SessionState). IfSome seat.own (IsShareOf other it.pending)) same (share_alike state.pending seat.own is.own);
  }

pub holds_alike : HoldsForAlike
holds_alike sessions m other first past same holds = record {
  seats = λ number. seat_alike m other first past (m.sessions number) (other.sessions number) (seat_at sessions.seats number) (same number) (holds.seats number);
  entries = holds.entries ∙ ap length past;
  later = subst (λ (entries : List Entry). IsLater sessions.later entries sessions.since) past holds.later;
}

-- ---- one session is changed

module _ (m : Machine) (number : ℕ) (session : SessionState) where
  seat_moved : (state : SessionState) (seat : SeatState) → IsSeatOf m state seat → IsSeatOf (with_session m number session) state seat
  seat_moved state seat is = seat_alike m (with_session m number session) refl refl state state seat refl is

  stands_with : (old new : SessionsState) (seat : SeatState) → HasSeat old.seats new.seats number seat → IsSeatOf m session seat → new.entries ≡ old.entries
      → IsLater new.later m.past new.since → Holds old m → Holds new (with_session m number session)
  stands_with old new seat has of entries later holds = record { seats = each; entries = entries ∙ holds.entries; later = later }
    where
      each : (other : ℕ) → IsSeatOf (with_session m number session) ((with_session m number session).sessions other) (seat_at new.seats other)
      each other = by (other == number) refl
        where
          by : (test : Bool) → test ≡ (other == number) → IsSeatOf (with_session m number session) (cond test session (m.sessions other)) (seat_at new.seats other)
          by true e =
              seat_moved session (seat_at new.seats other)
              (subst (λ n. IsSeatOf m session (seat_at new.seats n)) (sym (eqb-true other number (sym e))) (subst (IsSeatOf m session) (sym has.it) of))
          by false e =
              seat_moved (m.sessions other) (seat_at new.seats other)
              (subst (IsSeatOf m (m.sessions other)) (sym (has.others other (λ same. let bad : false ≡ true = e ∙ eq-eqb other number same in cc))) (holds.seats other))

-- what is made of the state of a session keeps what its own database stands for
abbrev KeepsShares : (SessionState → SessionState) → Type 0
KeepsShares make = (m : Machine) (session : SessionState) (own : Own) → IsOwnOf session.pending own → IsShareOf m session.pending own → IsShareOf m (make session).pending own

own_kept : (make : SessionState → SessionState) → KeepsShares make → (m : Machine) (state session : SessionState) (own : Option Own) → state ≡ session → IfSome own (IsOwnOf state.pending)
    → IfSome own (IsShareOf m session.pending) → IfSome own (IsShareOf m (make session).pending)
own_kept make keeps m state session None same is shared = tt
own_kept make keeps m state session (Some own) same is shared = keeps m session own (subst (λ (it : SessionState). IsOwnOf it.pending own) same is) shared

module _ (olds news : List Seat) (locks locks' : List Lock) (later : List TableStamps) (since entries : ℕ) where
  abbrev old : SessionsState
  old = record { seats = olds; locks = locks; later = later; since = since; entries = entries }

  abbrev new : SessionsState
  new = record { seats = news; locks = locks'; later = later; since = since; entries = entries }

  pub turned : (number : ℕ) (make : SessionState → SessionState) → IsSound (seat_at olds number) → KeepsShares make → TurnsSeat olds news number make → Turns old new number make
  turned number make sound keeps has =
      let seat = seat_at olds number in
      let made : SeatState = record { state = make (seat_at olds number).state; own = (seat_at olds number).own } in
      record {
        states = states_with olds news number made has;
        owns = owns_with olds news number made has refl;
        entries = refl;
        holds = λ m holds.
            let before = holds.seats number in
            let of : IsSeatOf m (make (m.sessions number)) made = record {
              state = ap make before.state;
              own = own_kept make keeps m seat.state (m.sessions number) seat.own before.state sound.own before.own;
            } in
            stands_with m number (make (m.sessions number)) old new made has of refl holds.later holds;
      }

-- writes that wait behind those of a database that has no more of them than there are
pub waiting_keeps : (next : ℕ) (writes : List Write) → KeepsShares (waiting next writes)
waiting_keeps next writes m session own is shared = record {
  within = shared.within;
  db = shared.db ∙ ap (with_writes (db_at m own.at)) (sym (take-append-le own.written session.pending writes is.written));
}

-- ---- a view is taken

-- ---- an entry is committed

module _ (m : Machine) (entry : Entry) where
  share_later : (pending : List Write) (own : Option Own) → IfSome own (IsShareOf m pending) → IfSome own (IsShareOf (with_entry m entry) pending)
  share_later pending None is = tt
  share_later pending (Some own) is = record {
    within = let before = is.within in rw (length-append m.past (entry ∷ [])) (omega arith);
    db = is.db ∙ ap (λ (db : Db). with_writes db (take own.written pending)) (sym (still_at m entry own.at is.within));
  }

  pub stands_later : (seats : List Seat) (locks locks' : List Lock) (later later' : List TableStamps) (since since' entries : ℕ)
      → IsLater later' (m.past ++ entry ∷ []) since'
      → Holds (record { seats = seats; locks = locks; later = later; since = since; entries = entries }) m
      → Holds (record { seats = seats; locks = locks'; later = later'; since = since'; entries = entries + 1 }) (with_entry m entry)
  stands_later seats locks locks' later later' since since' entries known holds =
      let counted : entries ≡ length m.past = holds.entries in
      record {
        seats = λ number. let before = holds.seats number in record { state = before.state; own = share_later (m.sessions number).pending (seat_at seats number).own before.own };
        entries = rw (length-append m.past (entry ∷ [])) (omega arith);
        later = known;
      }

-- ---- what is known of entries

-- it is forgotten where no session has a view, and else stays
pub known_since : (seats : List Seat) (past : List Entry) (later later' : List TableStamps) (since since' entries : ℕ)
    → (any_view seats ≡ true → (since' ≡ since) × (later' ≡ later)) → (any_view seats ≡ false → (past : List Entry) → entries ≡ length past → IsLater later' past since')
    → entries ≡ length past → (any_view seats ≡ true → IsLater later past since) → IsLater later' past since'
known_since seats past later later' since since' entries kept forgotten all known = by (any_view seats) refl
  where
    by : (test : Bool) → any_view seats ≡ test → IsLater later' past since'
    by true some = let same = kept some in subst (λ n. IsLater later' past n) (sym same.0) (subst (λ (it : List TableStamps). IsLater it past since) (sym same.1) (known some))
    by false none = forgotten none past all

-- from a count on that is not past that of all entries
pub known_within : (seats : List Seat) (since since' entries : ℕ) → (any_view seats ≡ true → since' ≡ since) → (any_view seats ≡ false → since' ≡ entries) → since ≤ entries → since' ≤ entries
known_within seats since since' entries kept forgotten within = by (any_view seats) refl
  where
    by : (test : Bool) → any_view seats ≡ test → since' ≤ entries
    by true some = let same = kept some in omega arith
    by false none = let same = forgotten none in omega arith
