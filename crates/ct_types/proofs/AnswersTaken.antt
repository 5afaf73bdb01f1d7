-- Steps that were taken, where a walk has come to an end.
use Rattle.std.proofs.Common.{◌≡◌, suc, Bool, true, false, cond, if◌then◌else◌, List, [], ◌∷◌, ◌++◌, length, Option, Some, None, Ok, Err, refl, sym, ap, ◌∙◌, subst}
use Rattle.ct_types.specs.declared.refusal.Refusal.{Refusal}
use Rattle.ct_types.specs.Answers.{Answer, ◌>>=◌, ◌>>◌, demand, or_refuse, each_after}

pub record Steps {A B : Type 0} (first : Answer A) (next : A → Answer B) (last : B) : Type 0 where
  pub came : A
  pub is : first ≡ Ok came
  pub goes : next came ≡ Ok last

pub steps : {A B : Type 0} (first : Answer A) (next : A → Answer B) (last : B) → (first >>= next) ≡ Ok last → Steps first next last
steps (Ok a) next last e = record { came = a; is = refl; goes = e }
steps (Err refusal) next last e = absurd cc

pub record Passed {A : Type 0} (test : Bool) (rest : Answer A) (last : A) : Type 0 where
  pub holds : test ≡ true
  pub goes : rest ≡ Ok last

pub passed : {A : Type 0} (test : Bool) (refusal : Refusal) (rest : Answer A) (last : A) → (demand test refusal >> rest) ≡ Ok last → Passed test rest last
passed true refusal rest last e = record { holds = refl; goes = e }
passed false refusal rest last e = absurd cc

pub same_Ok : {A : Type 0} (a b : A) → Path (Answer A) (Ok a) (Ok b) → a ≡ b
same_Ok a b e = cc

pub there : {A : Type 0} (found : Option A) (refusal : Refusal) (a : A) → or_refuse found refusal ≡ Ok a → found ≡ Some a
there (Some b) refusal a e = cc
there None refusal a e = absurd cc

-- a walk makes one for each
pub each_after_length : {A B : Type 0} (step : List A → A → Answer B) (before all : List A) (made : List B) → each_after step before all ≡ Ok made → length made ≡ length all
each_after_length step before [] [] e = refl
each_after_length step before [] (b ∷ made) e = absurd cc
each_after_length step before (a ∷ more) made e =
    let one = steps (step before a) (λ b. each_after step (before ++ a ∷ []) more >>= (λ made. Ok (b ∷ made))) made e in
    let others = steps (each_after step (before ++ a ∷ []) more) (λ made. Ok (one.came ∷ made)) made one.goes in
    ap length (sym (same_Ok (one.came ∷ others.came) made others.goes)) ∙ ap suc (each_after_length step (before ++ a ∷ []) more others.came others.is)

-- ---- one answer, or another

pub ok_or : {A : Type 0} (P : A → Type 0) (test : Bool) (here last : A) (other : Answer A) → P here → (other ≡ Ok last → P last) → (if test then Ok here else other) ≡ Ok last → P last
ok_or P true here last other fine more e = subst P (same_Ok here last e) fine
ok_or P false here last other fine more e = more e

pub some_or : {A : Type 0} (P : A → Type 0) (test : Bool) (here last : A) (other : Option A) → P here → (other ≡ Some last → P last) → cond test (Some here) other ≡ Some last → P last
some_or P true here last other fine more e = let same : here ≡ last = cc in subst P same fine
some_or P false here last other fine more e = more e
