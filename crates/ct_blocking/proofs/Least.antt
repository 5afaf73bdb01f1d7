-- The least other session of which a test is true.
use Rattle.std.proofs.Common.{◌≡◌, ◌≢◌, ℕ, zero, suc, ◌+◌, ◌<◌, ◌==◌, ◌&&◌, Bool, true, false, not, cond, None, Some, refl, ap, ap₂, ◌∙◌, arith, eq-eqb, ne_eqb}
use Rattle.ct_session.specs.Sessions.{SessionState}
use Rattle.ct_state.specs.Holding.{least_from, least_other}

least_none : (test : ℕ → Bool) (number count : ℕ) → ((other : ℕ) → test other ≡ false) → least_from test number count ≡ None
least_none test number zero none = refl
least_none test number (suc count) none = ap (λ b. cond b (Some number) (least_from test (number + 1) count)) (none number) ∙ least_none test (number + 1) count none

-- the gap is how far the least one is from the first number
least_some : (test : ℕ → Bool) (number count gap holder : ℕ) → number + gap ≡ holder → gap < count → test holder ≡ true → ((lower : ℕ) → lower < holder → test lower ≡ false)
    → least_from test number count ≡ Some holder
least_some test number zero gap holder at within here least = absurd (omega arith)
least_some test number (suc count) zero holder at within here least =
    let same : number ≡ holder = omega arith in
    ap (λ b. cond b (Some number) (least_from test (number + 1) count)) (ap test same ∙ here) ∙ ap Some same
least_some test number (suc count) (suc gap) holder at within here least =
    ap (λ b. cond b (Some number) (least_from test (number + 1) count)) (least number (omega arith)) ∙ least_some test (number + 1) count gap holder (omega arith) (omega arith) here least

other_false : (session other : ℕ) (b : Bool) → (other ≢ session → b ≡ false) → not (other == session) && b ≡ false
other_false session other b none =
    let step : (is : Bool) → (other == session) ≡ is → not is && b ≡ false =
    elim [
      | true ↦ (λ e. refl)
      | false ↦ (λ e. none (λ same. let here : (other == session) ≡ true = eq-eqb other session same in cc))
    ] in
    step (other == session) refl

other_true : (session other : ℕ) (b : Bool) → other ≢ session → b ≡ true → not (other == session) && b ≡ true
other_true session other b ne here = ap₂ (λ is c. not is && c) (ne_eqb other session ne) here

module _ (sessions : ℕ → SessionState) (session : ℕ) (test : SessionState → Bool) where
  pub no_other : ((other : ℕ) → other ≢ session → test (sessions other) ≡ false) → least_other sessions session test ≡ None
  unfolding least_other
  no_other none =
      least_none (λ other. not (other == session) && test (sessions other)) 0 256 (λ other. other_false session other (test (sessions other)) (none other))

  pub one_other : (holder : ℕ) → holder < 256 → holder ≢ session → test (sessions holder) ≡ true → ((lower : ℕ) → lower < holder → lower ≢ session → test (sessions lower) ≡ false)
      → least_other sessions session test ≡ Some holder
  unfolding least_other
  one_other holder within ne here least =
      least_some (λ other. not (other == session) && test (sessions other)) 0 256 holder holder (omega arith) within (other_true session holder (test (sessions holder)) ne here)
      (λ lower below. other_false session lower (test (sessions lower)) (least lower below))
