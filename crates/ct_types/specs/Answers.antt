-- What a step of binding answers: what it comes to, or the first refusal that it meets. This project's own.
use Rattle.std.specs.Prelude.{◌≡◌, ◌≢◌, Bool, true, false, List, [], ◌∷◌, ◌++◌, Option, Some, None, Result, Ok, Err}
use denote.Ref.{Bor}
use Rattle.ct_types.specs.declared.refusal.Refusal.{Refusal}
use Rattle.ct_types.specs.declared.refusal.Refusal.TheVariants.{Memory}

abbrev pub Answer : Type 0 → Type 0
Answer A = Result A Refusal

-- one step, and with what it came to the next one
infixl 10 ◌>>=◌
abbrev pub ◌>>=◌ : {A B : Type 0} → Answer A → (A → Answer B) → Answer B
Ok a >>= next = next a
Err refusal >>= next = Err refusal

infixl 10 ◌>>◌
abbrev pub ◌>>◌ : {A B : Type 0} → Answer A → Answer B → Answer B
first >> next = first >>= (λ _. next)

-- refused, unless the test holds
abbrev pub demand : Bool → Refusal → Answer (Unit {0})
demand true refusal = Ok tt
demand false refusal = Err refusal

-- refused, where there is none
abbrev pub or_refuse : {A : Type 0} → Option A → Refusal → Answer A
or_refuse (Some a) refusal = Ok a
or_refuse None refusal = Err refusal

-- nothing of nothing
abbrev pub optional : {A B : Type 0} → (A → Answer B) → Option A → Answer (Option B)
optional step None = Ok None
optional step (Some a) = step a >>= (λ b. Ok (Some b))

-- each of them, from left to right
abbrev pub each : {A B : Type 0} → (A → Answer B) → List A → Answer (List B)
each step [] = Ok []
each step (a ∷ more) = step a >>= (λ b. each step more >>= (λ made. Ok (b ∷ made)))

-- the same, where a step knows those before its own
abbrev pub each_after : {A B : Type 0} → (List A → A → Answer B) → List A → List A → Answer (List B)
each_after step before [] = Ok []
each_after step before (a ∷ more) = step before a >>= (λ b. each_after step (before ++ a ∷ []) more >>= (λ made. Ok (b ∷ made)))

-- a list that is made already, and then what a walk makes
abbrev pub onto : {B : Type 0} → List B → Answer (List B) → Answer (List B)
onto made walk = walk >>= (λ more. Ok (made ++ more))

-- What a function gives: the answer that is wanted, or want of memory.
abbrev pub Gives : {A : Type 0} → Answer A → Answer A → Type 0
Gives wanted (Ok a) = wanted ≡ Ok a
Gives wanted (Err refusal) = refusal ≢ Memory → wanted ≡ Err refusal

-- the same of a function that lends what it found
abbrev pub Lends : {A : Type 0} → Answer A → Result (Bor A) Refusal → Type 0
Lends wanted (Ok a) = wanted ≡ Ok a.now
Lends wanted (Err refusal) = refusal ≢ Memory → wanted ≡ Err refusal

-- the same of a function that adds to a list what it makes
abbrev pub Adds : {A B : Type 0} → Answer (List A) → List A → Answer B → List A → Type 0
Adds wanted old (Ok done) new = onto old wanted ≡ Ok new
Adds wanted old (Err refusal) new = refusal ≢ Memory → wanted ≡ Err refusal
