-- An answer whose refusal, if it is one, has a cause, and the steps that keep it so.
use Rattle.std.proofs.Common.{◌≡◌, Bool, true, false, List, [], ◌∷◌, ◌++◌, Option, Some, None, Ok, Err, refl, cond, subst}
use Rattle.std.specs.List.{AllByRecursion}
use Rattle.ct_types.specs.declared.refusal.Refusal.{Refusal}
use Rattle.ct_types.specs.Answers.{Answer, ◌>>=◌, ◌>>◌, demand, or_refuse, each, each_after}

pub record Caused {A : Type 0} (Cause : Refusal → Type 0) (answer : Answer A) : Type 0 where
  pub holds : (refusal : Refusal) → answer ≡ Err refusal → Cause refusal

pub ok_caused : {A : Type 0} {Cause : Refusal → Type 0} (a : A) → Caused Cause (Ok a)
ok_caused a = record { holds = λ refusal e. absurd cc }

pub err_caused : {A : Type 0} {Cause : Refusal → Type 0} (refusal : Refusal) → Cause refusal → Caused {A = A} Cause (Err refusal)
err_caused {Cause = Cause} refusal cause = record { holds = λ other e. let same : refusal ≡ other = cc in subst (λ it. Cause it) same cause }

-- where each cause is another one too
pub weaker : {A : Type 0} {Cause Other : Refusal → Type 0} (answer : Answer A) → ((refusal : Refusal) → Cause refusal → Other refusal) → Caused Cause answer → Caused Other answer
weaker answer other caused = record { holds = λ refusal e. other refusal (caused.holds refusal e) }

pub then_caused : {A B : Type 0} {Cause : Refusal → Type 0} (first : Answer A) (next : A → Answer B) → Caused Cause first → ((a : A) → Caused Cause (next a)) → Caused Cause (first >>= next)
then_caused (Ok a) next caused go = go a
then_caused (Err refusal) next caused go = err_caused refusal (caused.holds refusal refl)

-- the same, where what the first step came to tells of the next one
pub after_caused : {A B : Type 0} {Cause : Refusal → Type 0} (first : Answer A) (next : A → Answer B)
    → Caused Cause first → ((a : A) → first ≡ Ok a → Caused Cause (next a)) → Caused Cause (first >>= next)
after_caused (Ok a) next caused go = go a refl
after_caused (Err refusal) next caused go = err_caused refusal (caused.holds refusal refl)

pub demand_caused : {Cause : Refusal → Type 0} (test : Bool) (refusal : Refusal) → (test ≡ false → Cause refusal) → Caused Cause (demand test refusal)
demand_caused true refusal cause = ok_caused tt
demand_caused false refusal cause = err_caused refusal (cause refl)

-- a demand, and what follows where it is met
pub met_caused : {B : Type 0} {Cause : Refusal → Type 0} (test : Bool) (refusal : Refusal) (rest : Answer B)
    → (test ≡ false → Cause refusal) → (test ≡ true → Caused Cause rest) → Caused Cause (demand test refusal >> rest)
met_caused true refusal rest cause go = go refl
met_caused false refusal rest cause go = err_caused refusal (cause refl)

pub cond_caused : {A : Type 0} {Cause : Refusal → Type 0} (test : Bool) (one other : Answer A) → Caused Cause one → Caused Cause other → Caused Cause (cond test one other)
cond_caused true one other a b = a
cond_caused false one other a b = b

pub or_caused : {A : Type 0} {Cause : Refusal → Type 0} (o : Option A) (refusal : Refusal) → (o ≡ None → Cause refusal) → Caused Cause (or_refuse o refusal)
or_caused (Some a) refusal cause = ok_caused a
or_caused None refusal cause = err_caused refusal (cause refl)

-- what was looked up, and what follows where it is there
pub found_caused : {A B : Type 0} {Cause : Refusal → Type 0} (o : Option A) (refusal : Refusal) (next : A → Answer B)
    → (o ≡ None → Cause refusal) → ((a : A) → o ≡ Some a → Caused Cause (next a)) → Caused Cause (or_refuse o refusal >>= next)
found_caused (Some a) refusal next cause go = go a refl
found_caused None refusal next cause go = err_caused refusal (cause refl)

pub each_caused : {A B : Type 0} {Cause : Refusal → Type 0} (step : A → Answer B) (all : List A) → AllByRecursion (λ a. Caused Cause (step a)) all → Caused Cause (each step all)
each_caused step [] go = ok_caused []
each_caused step (a ∷ more) go =
    then_caused (step a) (λ b. each step more >>= (λ made. Ok (b ∷ made))) go.0 (λ b. then_caused (each step more) (λ made. Ok (b ∷ made)) (each_caused step more go.1) (λ made. ok_caused (b ∷ made)))

pub each_after_caused : {A B : Type 0} {Cause : Refusal → Type 0} (step : List A → A → Answer B) (before all : List A)
    → AllByRecursion (λ a. (before : List A) → Caused Cause (step before a)) all → Caused Cause (each_after step before all)
each_after_caused step before [] go = ok_caused []
each_after_caused step before (a ∷ more) go =
    then_caused (step before a) (λ b. each_after step (before ++ a ∷ []) more >>= (λ made. Ok (b ∷ made))) (go.0 before)
    (λ b. then_caused (each_after step (before ++ a ∷ []) more) (λ made. Ok (b ∷ made)) (each_after_caused step (before ++ a ∷ []) more go.1) (λ made. ok_caused (b ∷ made)))
