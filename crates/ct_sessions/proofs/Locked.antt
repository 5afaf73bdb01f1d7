-- What sessions hold once one takes keys or lets go of all.
use Rattle.std.proofs.Common.{◌≡◌, ◌≢◌, ℕ, ◌==◌, nat_le, nat_lt, Bool, true, false, cond, not, List, [], ◌∷◌, ◌++◌, map, filter, refl, sym, ap, ◌∙◌, eqb-true, eq-eqb, append-nil, arith}
use Rattle.std.proofs.lemmas.Bool.Decides.{nat_tests}
use Rattle.std.proofs.lemmas.List.Elements.{filter-append}
use Rattle.ct_types.specs.declared.entry.Write.{Write}
use Rattle.ct_locks.specs.Changes.{lock_of_write, with_writes_taken, without_session}
use Rattle.ct_locks.specs.Holders.{Lock, is_of, locks_of}

-- ---- letting go

pub released_own : (locks : List Lock) (number : ℕ) → locks_of (without_session locks number) number ≡ []
released_own [] number = refl
released_own (lock ∷ locks) number =
    let rest : List Lock = without_session locks number in
    let more : locks_of rest number ≡ [] = released_own locks number in
    let step : (test : Bool) → test ≡ is_of number lock → filter (is_of number) (cond (not test) (lock ∷ rest) rest) ≡ [] =
    elim [ true ↦ (λ e. more) | false ↦ (λ e. ap (λ (test : Bool). cond test (lock ∷ locks_of rest number) (locks_of rest number)) (sym e) ∙ more) ] in
    step (is_of number lock) refl

elsewhere : (lock : Lock) (number other : ℕ) → other ≢ number → true ≡ is_of number lock → is_of other lock ≡ false
elsewhere lock number other apart e = grind (arith, nat_tests)

pub released_other : (locks : List Lock) (number other : ℕ) → other ≢ number → locks_of (without_session locks number) other ≡ locks_of locks other
released_other [] number other apart = refl
released_other (lock ∷ locks) number other apart =
    let rest : List Lock = without_session locks number in
    let more : locks_of rest other ≡ locks_of locks other = released_other locks number other apart in
    let step : (test : Bool) → test ≡ is_of number lock → filter (is_of other) (cond (not test) (lock ∷ rest) rest) ≡ cond (is_of other lock) (lock ∷ locks_of locks other) (locks_of locks other) =
    elim [
      | true ↦ (λ e. more ∙ sym (ap (λ (test : Bool). cond test (lock ∷ locks_of locks other) (locks_of locks other)) (elsewhere lock number other apart e)))
      | false ↦ (λ e. ap (λ (front : List Lock). cond (is_of other lock) (lock ∷ front) front) more)
    ] in
    step (is_of number lock) refl

-- ---- taking

-- a lock whose session fails a test that this one passes is not of this one, and the other way round
not_of : (test : ℕ → Bool) (number : ℕ) (lock : Lock) (here there : Bool) → test number ≡ here → there ≡ test lock.session → here ≢ there → is_of number lock ≡ false
not_of test number lock here there mine its apart =
    let step : (b : Bool) → b ≡ is_of number lock → b ≡ false =
    elim [ true ↦ (λ same. absurd (apart (sym mine ∙ sym (ap test (eqb-true lock.session number (sym same))) ∙ sym its))) | false ↦ (λ same. refl) ] in
    step (is_of number lock) refl

-- those of a session among those of some sessions: all, or none
among : (test : ℕ → Bool) (number : ℕ) (locks : List Lock) → test number ≡ true → locks_of (filter (λ lock. test lock.session) locks) number ≡ locks_of locks number
among test number [] passes = refl
among test number (lock ∷ locks) passes =
    let kept : List Lock = filter (λ lock. test lock.session) locks in
    let more : locks_of kept number ≡ locks_of locks number = among test number locks passes in
    let step : (b : Bool) → b ≡ test lock.session → filter (is_of number) (cond b (lock ∷ kept) kept) ≡ cond (is_of number lock) (lock ∷ locks_of locks number) (locks_of locks number) =
    elim [
      | true ↦ (λ e. ap (λ (rest : List Lock). cond (is_of number lock) (lock ∷ rest) rest) more)
      | false ↦
          (λ e. more ∙ sym (ap (λ (b : Bool). cond b (lock ∷ locks_of locks number) (locks_of locks number)) (not_of test number lock true false passes e (λ bad. cc))))
    ] in
    step (test lock.session) refl

beside : (test : ℕ → Bool) (number : ℕ) (locks : List Lock) → test number ≡ false → locks_of (filter (λ lock. test lock.session) locks) number ≡ []
beside test number [] fails = refl
beside test number (lock ∷ locks) fails =
    let kept : List Lock = filter (λ lock. test lock.session) locks in
    let more : locks_of kept number ≡ [] = beside test number locks fails in
    let step : (b : Bool) → b ≡ test lock.session → filter (is_of number) (cond b (lock ∷ kept) kept) ≡ [] =
    elim [
      | true ↦ (λ e. ap (λ (b : Bool). cond b (lock ∷ locks_of kept number) (locks_of kept number)) (not_of test number lock false true fails e (λ bad. cc)) ∙ more)
      | false ↦ (λ e. more)
    ] in
    step (test lock.session) refl

-- keys that a session takes are its own
own_keys : (number : ℕ) (writes : List Write) → locks_of (map (lock_of_write number) writes) number ≡ map (lock_of_write number) writes
own_keys number [] = refl
own_keys number (write ∷ writes) =
    ap (λ (test : Bool). cond test (lock_of_write number write ∷ locks_of (map (lock_of_write number) writes) number) (locks_of (map (lock_of_write number) writes) number)) (eq-eqb number number refl)
    ∙ ap (λ (rest : List Lock). lock_of_write number write ∷ rest) (own_keys number writes)

other_keys : (number other : ℕ) (writes : List Write) → other ≢ number → locks_of (map (lock_of_write number) writes) other ≡ []
other_keys number other [] apart = refl
other_keys number other (write ∷ writes) apart =
    let elsewhere : (number == other) ≡ false = grind (arith, nat_tests) in
    ap (λ (test : Bool). cond test (lock_of_write number write ∷ locks_of (map (lock_of_write number) writes) other) (locks_of (map (lock_of_write number) writes) other)) elsewhere ∙ other_keys number other writes apart

module _ (locks : List Lock) (number : ℕ) (writes : List Write) where
  abbrev front : List Lock
  front = filter (λ lock. nat_le lock.session number) locks

  abbrev back : List Lock
  back = filter (λ lock. nat_lt number lock.session) locks

  parts : (other : ℕ) → locks_of (with_writes_taken locks number writes) other ≡ locks_of front other ++ (locks_of (map (lock_of_write number) writes) other ++ locks_of back other)
  parts other =
      filter-append (is_of other) front (map (lock_of_write number) writes ++ back)
      ∙ ap (λ (rest : List Lock). locks_of front other ++ rest) (filter-append (is_of other) (map (lock_of_write number) writes) back)

  pub taken_own : locks_of (with_writes_taken locks number writes) number ≡ locks_of locks number ++ map (lock_of_write number) writes
  taken_own =
      let last : locks_of back number ≡ [] = beside (λ n. nat_lt number n) number locks (grind (arith, nat_tests)) in
      let first : locks_of front number ≡ locks_of locks number = among (λ n. nat_le n number) number locks (grind (arith, nat_tests)) in
      parts number ∙ (λ i. first i ++ (own_keys number writes i ++ last i)) ∙ ap (λ (rest : List Lock). locks_of locks number ++ rest) (append-nil (map (lock_of_write number) writes))

  pub taken_other : (other : ℕ) → other ≢ number → locks_of (with_writes_taken locks number writes) other ≡ locks_of locks other
  taken_other other apart = parts other ∙ (λ i. locks_of front other ++ (other_keys number other writes apart i ++ locks_of back other)) ∙ sides (nat_le other number) refl
    where
      sides : (low : Bool) → low ≡ nat_le other number → locks_of front other ++ locks_of back other ≡ locks_of locks other
      sides true e =
          let first : locks_of front other ≡ locks_of locks other = among (λ n. nat_le n number) other locks (sym e) in
          let last : locks_of back other ≡ [] = beside (λ n. nat_lt number n) other locks (grind (arith, nat_tests)) in
          (λ i. first i ++ last i) ∙ append-nil (locks_of locks other)
      sides false e =
          let first : locks_of front other ≡ [] = beside (λ n. nat_le n number) other locks (sym e) in
          let last : locks_of back other ≡ locks_of locks other = among (λ n. nat_lt number n) other locks (grind (arith, nat_tests)) in
          (λ i. first i ++ last i)
