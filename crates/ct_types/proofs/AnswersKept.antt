-- An answer whose value, if it is one, has a property, and the steps that keep it so.
use Rattle.std.proofs.Common.{◌≡◌, ◌<◌, Bool, true, false, List, [], ◌∷◌, ◌++◌, length, if◌then◌else◌, Option, Some, None, IfSome, Ok, Err, refl, subst, arith}
use Rattle.std.specs.List.{AllByRecursion}
use Rattle.ct_types.specs.declared.refusal.Refusal.{Refusal}
use Rattle.ct_types.specs.Answers.{Answer, ◌>>=◌, ◌>>◌, demand, or_refuse, optional, each, each_after}

pub record Kept {A : Type 0} (P : A → Type 0) (answer : Answer A) : Type 0 where
  pub holds : (a : A) → answer ≡ Ok a → P a

pub ok_kept : {A : Type 0} (P : A → Type 0) (a : A) → P a → Kept P (Ok a)
ok_kept P a p = record { holds = λ other e. let same : a ≡ other = cc in subst P same p }

pub err_kept : {A : Type 0} (P : A → Type 0) (refusal : Refusal) → Kept P (Err refusal)
err_kept P refusal = record { holds = λ other e. absurd cc }

-- a step, and what follows it; the next one knows what the first kept
pub then_kept : {A B : Type 0} (P : A → Type 0) (Q : B → Type 0) (first : Answer A) (next : A → Answer B) → Kept P first → ((a : A) → P a → Kept Q (next a)) → Kept Q (first >>= next)
then_kept P Q (Ok a) next k go = go a (k.holds a refl)
then_kept P Q (Err refusal) next k go = err_kept Q refusal

-- the same, where nothing of the first step is asked
pub after_kept : {A B : Type 0} (Q : B → Type 0) (first : Answer A) (next : A → Answer B) → ((a : A) → Kept Q (next a)) → Kept Q (first >>= next)
after_kept Q (Ok a) next go = go a
after_kept Q (Err refusal) next go = err_kept Q refusal

-- a property that follows from another
pub mapped_kept : {A : Type 0} (P Q : A → Type 0) (answer : Answer A) → Kept P answer → ((a : A) → P a → Q a) → Kept Q answer
mapped_kept P Q answer k go = record { holds = λ a e. go a (k.holds a e) }

-- two properties at once
pub two_kept : {A : Type 0} (P Q : A → Type 0) (answer : Answer A) → Kept P answer → Kept Q answer → Kept (λ a. P a × Q a) answer
two_kept P Q answer first second = record { holds = λ a e. (first.holds a e, second.holds a e) }

-- a step that cannot fail stands between two
pub twice_kept : {A B C : Type 0} (P : A → Type 0) (Q : C → Type 0) (first : Answer A) (make : A → B) (next : B → Answer C)
    → Kept P first → ((a : A) → P a → Kept Q (next (make a))) → Kept Q ((first >>= (λ a. Ok (make a))) >>= next)
twice_kept P Q (Ok a) make next k go = go a (k.holds a refl)
twice_kept P Q (Err refusal) make next k go = err_kept Q refusal

-- a demand is met
pub met_kept : (test : Bool) (refusal : Refusal) → Kept (λ _. test ≡ true) (demand test refusal)
met_kept true refusal = ok_kept (λ _. true ≡ true) tt refl
met_kept false refusal = err_kept (λ _. false ≡ true) refusal

-- a demand, and what follows where it is met
pub demand_kept : {B : Type 0} (Q : B → Type 0) (test : Bool) (refusal : Refusal) (next : Answer B) → (test ≡ true → Kept Q next) → Kept Q (demand test refusal >> next)
demand_kept Q true refusal next go = go refl
demand_kept Q false refusal next go = err_kept Q refusal

pub here_kept : {A : Type 0} (P : A → Type 0) (test : Bool) (here : A) (other : Answer A) → P here → Kept P other → Kept P (if test then Ok here else other)
here_kept P true here other fine more = ok_kept P here fine
here_kept P false here other fine more = more

-- what was looked up
pub or_kept : {A : Type 0} (P : A → Type 0) (found : Option A) (refusal : Refusal) → IfSome found P → Kept P (or_refuse found refusal)
or_kept P (Some a) refusal here = ok_kept P a here
or_kept P None refusal here = err_kept P refusal

-- the same, where it is known what was found
pub found_kept : {A : Type 0} (P : A → Type 0) (found : Option A) (refusal : Refusal) → ((a : A) → found ≡ Some a → P a) → Kept P (or_refuse found refusal)
found_kept P (Some a) refusal go = ok_kept P a (go a refl)
found_kept P None refusal go = err_kept P refusal

pub optional_kept : {A B : Type 0} (P : B → Type 0) (step : A → Answer B) → ((a : A) → Kept P (step a)) → (given : Option A) → Kept (λ found. IfSome found P) (optional step given)
optional_kept P step go None = ok_kept (λ found. IfSome found P) None tt
optional_kept P step go (Some a) = then_kept P (λ found. IfSome found P) (step a) _ (go a) (λ b here. ok_kept (λ found. IfSome found P) (Some b) here)

pub each_kept : {A B : Type 0} (P : B → Type 0) (step : A → Answer B) → ((a : A) → Kept P (step a)) → (all : List A) → Kept (AllByRecursion P) (each step all)
each_kept P step go [] = ok_kept (AllByRecursion P) [] tt
each_kept P step go (a ∷ more) =
    then_kept P (AllByRecursion P) (step a) _ (go a) (λ b here. then_kept (AllByRecursion P) (AllByRecursion P) (each step more) _ (each_kept P step go more)
    (λ made rest. ok_kept (AllByRecursion P) (b ∷ made) (here, rest)))

pub each_after_kept : {A B : Type 0} (P : B → Type 0) (step : List A → A → Answer B) → ((before : List A) (a : A) → Kept P (step before a)) → (before all : List A)
    → Kept (AllByRecursion P) (each_after step before all)
each_after_kept P step go before [] = ok_kept (AllByRecursion P) [] tt
each_after_kept P step go before (a ∷ more) =
    then_kept P (AllByRecursion P) (step before a) _ (go before a)
    (λ b here. then_kept (AllByRecursion P) (AllByRecursion P) (each_after step (before ++ a ∷ []) more) _ (each_after_kept P step go (before ++ a ∷ []) more)
    (λ made rest. ok_kept (AllByRecursion P) (b ∷ made) (here, rest)))

-- what is made of some is some
pub each_after_some : {A B : Type 0} (step : List A → A → Answer B) (before all : List A) → 0 < length all → Kept (λ made. 0 < length made) (each_after step before all)
each_after_some step before [] some = absurd (omega arith)
each_after_some step before (a ∷ more) some =
    after_kept (λ made. 0 < length made) (step before a) _ (λ b. after_kept (λ made. 0 < length made) (each_after step (before ++ a ∷ []) more) _
    (λ made. let here : 0 < length (b ∷ made) = omega arith in ok_kept (λ made. 0 < length made) (b ∷ made) here))
