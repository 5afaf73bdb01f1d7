-- What holds wherever an answer is no refusal, and the steps that tell it.
use Rattle.std.proofs.Common.{◌≡◌, Bool, true, false, Option, Some, None, IsSome, Ok, Err, refl}
use Rattle.ct_types.specs.declared.refusal.Refusal.{Refusal}
use Rattle.ct_types.specs.Answers.{Answer, ◌>>=◌, ◌>>◌, demand, or_refuse}

pub record Passed {A : Type 0} (P : Type 0) (answer : Answer A) : Type 0 where
  pub holds : (a : A) → answer ≡ Ok a → P

-- what holds, whatever the answer is
pub anyway : {A : Type 0} {P : Type 0} (answer : Answer A) → P → Passed P answer
anyway answer p = record { holds = λ a e. p }

-- a refusal tells nothing
pub refused : {A : Type 0} {P : Type 0} (refusal : Refusal) → Passed {A = A} P (Err refusal)
refused refusal = record { holds = λ a e. absurd cc }

-- and what follows from what holds
pub also : {A : Type 0} {P Q : Type 0} (answer : Answer A) → (P → Q) → Passed P answer → Passed Q answer
also answer go passed = record { holds = λ a e. go (passed.holds a e) }

-- what is told in two ways
pub two_passed : {A : Type 0} {P Q : Type 0} (answer : Answer A) → Passed P answer → Passed Q answer → Passed (P × Q) answer
two_passed answer one other = record { holds = λ a e. (one.holds a e, other.holds a e) }

-- of two steps, what the first one tells
pub first_passed : {A B : Type 0} {P : Type 0} (first : Answer A) (next : A → Answer B) → Passed P first → Passed P (first >>= next)
first_passed (Ok a) next passed = anyway (next a) (passed.holds a refl)
first_passed (Err refusal) next passed = refused refusal

-- what the second one tells
pub next_passed : {A B : Type 0} {P : Type 0} (first : Answer A) (next : A → Answer B) → ((a : A) → first ≡ Ok a → Passed P (next a)) → Passed P (first >>= next)
next_passed (Ok a) next go = go a refl
next_passed (Err refusal) next go = refused refusal

-- and what both tell
pub both_passed : {A B : Type 0} {P Q : Type 0} (first : Answer A) (next : A → Answer B) → Passed P first → ((a : A) → first ≡ Ok a → Passed Q (next a)) → Passed (P × Q) (first >>= next)
both_passed (Ok a) next passed go = also (next a) (λ q. (passed.holds a refl, q)) (go a refl)
both_passed (Err refusal) next passed go = refused refusal

-- a demand that is met, and what follows
pub met_passed : {B : Type 0} {P : Type 0} (test : Bool) (refusal : Refusal) (rest : Answer B) → (test ≡ true → Passed P rest) → Passed P (demand test refusal >> rest)
met_passed true refusal rest go = go refl
met_passed false refusal rest go = refused refusal

-- what was looked up is there
pub or_passed : {A : Type 0} (o : Option A) (refusal : Refusal) → Passed (IsSome o) (or_refuse o refusal)
or_passed (Some a) refusal = anyway (Ok a) refl
or_passed None refusal = refused refusal

-- and what follows knows it
pub found_passed : {A B : Type 0} {P : Type 0} (o : Option A) (refusal : Refusal) (next : A → Answer B) → ((a : A) → o ≡ Some a → Passed P (next a)) → Passed P (or_refuse o refusal >>= next)
found_passed (Some a) refusal next go = go a refl
found_passed None refusal next go = refused refusal
