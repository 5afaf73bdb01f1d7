-- Chains of steps of which each refusal has a cause, and members of lists.
use Rattle.std.proofs.Common.{◌≡◌, ◌<◌, Bool, List, [], ◌∷◌, ◌++◌, length, map, Ok, Err, refl, ap, ◌∙◌, arith}
use Rattle.std.specs.List.{AllByRecursion, Contains}
use Rattle.std.proofs.lemmas.List.{map-append}
use Rattle.std.proofs.lemmas.List.Elements.{Contains-append_right}
use Rattle.ct_types.specs.declared.refusal.Refusal.{Refusal}
use Rattle.ct_types.specs.Answers.{Answer, ◌>>=◌, each}
use Rattle.ct_types.proofs.AnswersCaused.{Caused, ok_caused, then_caused}
use Rattle.ct_model.proofs.Members.{all_weaken}
use Rattle.ct_expr.specs.Conditions.{only}
use Rattle.ct_expr.specs.Meaning.{chain}
use Rattle.ct_scan.specs.Lists.{all_of}

pub first_is_in : {X : Type 0} (x : X) (xs : List X) → Contains (x ∷ xs) x
first_is_in x xs = let some : 0 < length (x ∷ xs) = omega arith in (0, some, refl)

pub behind_is_in : {X : Type 0} (front : List X) (x : X) (xs : List X) → Contains (front ++ x ∷ xs) x
behind_is_in front x xs = Contains-append_right front (x ∷ xs) x (first_is_in x xs)

pub later_is_in : {X : Type 0} (x : X) (xs : List X) (y : X) → Contains xs y → Contains (x ∷ xs) y
later_is_in x xs y is = Contains-append_right (x ∷ []) xs y is

-- each member is in the list
pub each_is_in : {X Y : Type 0} (f : Y → X) (ys : List Y) → AllByRecursion (λ y. Contains (map f ys) (f y)) ys
each_is_in f [] = tt
each_is_in f (y ∷ ys) = (first_is_in (f y) (map f ys), all_weaken _ _ (λ z is. later_is_in (f y) (map f ys) (f z) is) ys (each_is_in f ys))

pub chain_caused : {A X Y : Type 0} {Cause : Refusal → Type 0} (step : A → X → Answer A) (f : Y → X) (so_far : A) (ys : List Y)
    → AllByRecursion (λ y. (a : A) → Caused Cause (step a (f y))) ys → Caused Cause (chain step so_far (map f ys))
chain_caused step f so_far [] all = ok_caused so_far
chain_caused step f so_far (y ∷ ys) all = then_caused (step so_far (f y)) (λ made. chain step made (map f ys)) (all.0 so_far) (λ made. chain_caused step f made ys all.1)

-- a chain goes on by one member
chain_next : {A X : Type 0} (step : A → X → Answer A) (b : A) (xs : List X) (x : X) (first : Answer A)
    → ((a : A) → chain step a xs ≡ Ok b → chain step a (xs ++ x ∷ []) ≡ (step b x >>= (λ made. Ok made)))
    → (first >>= (λ made. chain step made xs)) ≡ Ok b → (first >>= (λ made. chain step made (xs ++ x ∷ []))) ≡ (step b x >>= (λ made. Ok made))
chain_next step b xs x (Ok a) go e = go a e
chain_next step b xs x (Err refusal) go e = absurd cc

chain_more : {A X : Type 0} (step : A → X → Answer A) (a b : A) (xs : List X) (x : X) → chain step a xs ≡ Ok b → chain step a (xs ++ x ∷ []) ≡ (step b x >>= (λ made. Ok made))
chain_more step a b [] x e = let same : a ≡ b = cc in ap (λ a. step a x >>= (λ made. Ok made)) same
chain_more step a b (y ∷ xs) x e = chain_next step b xs x (step a y) (λ c came. chain_more step c b xs x came) e

pub chain_goes_on : {A X Y : Type 0} (step : A → X → Answer A) (f : Y → X) (a b made : A) (ys : List Y) (y : Y) → chain step a (map f ys) ≡ Ok b → step b (f y) ≡ Ok made
    → chain step a (map f (ys ++ y ∷ [])) ≡ Ok made
chain_goes_on step f a b made ys y e gave =
    ap (chain step a) (map-append f ys (y ∷ [])) ∙ (chain_more step a b (map f ys) (f y) e ∙ ap (λ r. r >>= (λ made. Ok made)) gave)

-- ---- lists of which each member is asked

pub only_caused : {A : Type 0} {Cause : Refusal → Type 0} (test : A → Answer Bool) (xs : List A) → ((x : A) → Contains xs x → Caused Cause (test x)) → Caused Cause (only test xs)
only_caused test [] go = ok_caused []
only_caused test (x ∷ xs) go =
    then_caused (test x) _ (go x (first_is_in x xs)) (λ passes. then_caused (only test xs) _ (only_caused test xs (λ y is. go y (later_is_in x xs y is))) (λ rest. ok_caused _))

-- the same of what is made of the members of another list
pub only_made_caused : {A B : Type 0} {Cause : Refusal → Type 0} (test : A → Answer Bool) (f : B → A) (bs : List B) → ((b : B) → Contains bs b → Caused Cause (test (f b)))
    → Caused Cause (only test (map f bs))
only_made_caused test f [] go = ok_caused []
only_made_caused test f (b ∷ bs) go =
    then_caused (test (f b)) _ (go b (first_is_in b bs)) (λ passes. then_caused (only test (map f bs)) _ (only_made_caused test f bs (λ c is. go c (later_is_in b bs c is))) (λ rest. ok_caused _))

pub all_of_caused : {A B : Type 0} {Cause : Refusal → Type 0} (step : A → Answer (List B)) (xs : List A) → ((x : A) → Contains xs x → Caused Cause (step x)) → Caused Cause (all_of step xs)
all_of_caused step [] go = ok_caused []
all_of_caused step (x ∷ xs) go =
    then_caused (step x) _ (go x (first_is_in x xs)) (λ some. then_caused (all_of step xs) _ (all_of_caused step xs (λ y is. go y (later_is_in x xs y is))) (λ rest. ok_caused _))

pub each_member_caused : {A B : Type 0} {Cause : Refusal → Type 0} (step : A → Answer B) (xs : List A) → ((x : A) → Contains xs x → Caused Cause (step x)) → Caused Cause (each step xs)
each_member_caused step [] go = ok_caused []
each_member_caused step (x ∷ xs) go =
    then_caused (step x) _ (go x (first_is_in x xs)) (λ b. then_caused (each step xs) _ (each_member_caused step xs (λ y is. go y (later_is_in x xs y is))) (λ made. ok_caused _))
