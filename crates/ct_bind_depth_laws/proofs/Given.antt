-- Answers over what is given, each of which has a property.
use Rattle.std.proofs.Common.{List, [], ◌∷◌, ◌++◌}
use Rattle.std.specs.List.{AllByRecursion}
use Rattle.ct_types.specs.Answers.{Answer, each, each_after}
use Rattle.ct_types.proofs.AnswersKept.{Kept, ok_kept, then_kept}

pub each_given : {A B : Type 0} (P : A → Type 0) (Q : B → Type 0) (step : A → Answer B) → ((a : A) → P a → Kept Q (step a)) → (all : List A) → AllByRecursion P all → Kept (AllByRecursion Q) (each step all)
each_given P Q step go [] given = ok_kept (AllByRecursion Q) [] tt
each_given P Q step go (a ∷ more) given =
    then_kept Q (AllByRecursion Q) (step a) _ (go a given.0)
    (λ b here. then_kept (AllByRecursion Q) (AllByRecursion Q) (each step more) _ (each_given P Q step go more given.1)
    (λ made rest. ok_kept (AllByRecursion Q) (b ∷ made) (here, rest)))

pub each_after_given : {A B : Type 0} (P : A → Type 0) (Q : B → Type 0) (step : List A → A → Answer B) → ((before : List A) (a : A) → P a → Kept Q (step before a)) → (before all : List A) → AllByRecursion P all
    → Kept (AllByRecursion Q) (each_after step before all)
each_after_given P Q step go before [] given = ok_kept (AllByRecursion Q) [] tt
each_after_given P Q step go before (a ∷ more) given =
    then_kept Q (AllByRecursion Q) (step before a) _ (go before a given.0)
    (λ b here. then_kept (AllByRecursion Q) (AllByRecursion Q) (each_after step (before ++ a ∷ []) more) _ (each_after_given P Q step go (before ++ a ∷ []) more given.1)
    (λ made rest. ok_kept (AllByRecursion Q) (b ∷ made) (here, rest)))
