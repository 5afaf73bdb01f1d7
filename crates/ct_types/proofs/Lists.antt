-- Lists each of whose items has a property, and what stands at a place.
use Rattle.std.proofs.Common.{◌≡◌, Bool, true, false, List, [], ◌∷◌, ◌++◌, map, flat_map, find, length, Some, None, not, ◌||◌, cond, refl}
use Rattle.std.specs.List.{AllByRecursion, list_any, slice_get}
use Rattle.ct_types.proofs.AnswersTaken.{some_or}

pub at_end : {X : Type 0} (before : List X) (x : X) (after : List X) → slice_get (before ++ x ∷ after) (length before) ≡ Some x
at_end [] x after = refl
at_end (y ∷ before) x after = at_end before x after

-- what holds of everything holds of each
pub all_everywhere : {X : Type 0} (P : X → Type 0) → ((x : X) → P x) → (xs : List X) → AllByRecursion P xs
all_everywhere P each [] = tt
all_everywhere P each (x ∷ xs) = (each x, all_everywhere P each xs)

pub all_append : {X : Type 0} (P : X → Type 0) (xs ys : List X) → AllByRecursion P xs → AllByRecursion P ys → AllByRecursion P (xs ++ ys)
all_append P [] ys front back = back
all_append P (x ∷ xs) ys front back = (front.0, all_append P xs ys front.1 back)

pub all_front : {X : Type 0} (P : X → Type 0) (xs ys : List X) → AllByRecursion P (xs ++ ys) → AllByRecursion P xs
all_front P [] ys all = tt
all_front P (x ∷ xs) ys all = (all.0, all_front P xs ys all.1)

pub all_back : {X : Type 0} (P : X → Type 0) (xs ys : List X) → AllByRecursion P (xs ++ ys) → AllByRecursion P ys
all_back P [] ys all = all
all_back P (x ∷ xs) ys all = all_back P xs ys all.1

pub all_one : {X : Type 0} (P : X → Type 0) (test : Bool) (x : X) (xs : List X) → P x → AllByRecursion P xs → AllByRecursion P (cond test (x ∷ xs) xs)
all_one P true x xs here more = (here, more)
all_one P false x xs here more = more

-- two properties of each make a third
pub all_join : {X : Type 0} (P Q R : X → Type 0) → ((x : X) → P x → Q x → R x) → (xs : List X) → AllByRecursion P xs → AllByRecursion Q xs → AllByRecursion R xs
all_join P Q R go [] first second = tt
all_join P Q R go (x ∷ xs) first second = (go x first.0 second.0, all_join P Q R go xs first.1 second.1)

-- ---- lists that are made of other lists

pub all_joined : {X : Type 0} (P : X → Type 0) (parts : List (List X)) → AllByRecursion (AllByRecursion P) parts → AllByRecursion P (flat_map (λ part. part) parts)
all_joined P [] all = tt
all_joined P (part ∷ parts) all = all_append P part (flat_map (λ part. part) parts) all.0 (all_joined P parts all.1)

pub all_parts : {X : Type 0} (P : X → Type 0) (parts : List (List X)) → AllByRecursion P (flat_map (λ part. part) parts) → AllByRecursion (AllByRecursion P) parts
all_parts P [] all = tt
all_parts P (part ∷ parts) all = (all_front P part (flat_map (λ part. part) parts) all, all_parts P parts (all_back P part (flat_map (λ part. part) parts) all))

pub all_mapped : {X Y : Type 0} (f : X → Y) (P : Y → Type 0) (xs : List X) → AllByRecursion P (map f xs) → AllByRecursion (λ x. P (f x)) xs
all_mapped f P [] all = tt
all_mapped f P (x ∷ xs) all = (all.0, all_mapped f P xs all.1)

-- ---- what is found

pub all_found : {X : Type 0} (P : X → Type 0) (test : X → Bool) (xs : List X) (x : X) → AllByRecursion P xs → find test xs ≡ Some x → P x
all_found P test [] x all e = absurd cc
all_found P test (y ∷ xs) x all e = some_or P (test y) y x (find test xs) all.0 (all_found P test xs x all.1) e

missed_one : {X : Type 0} (test : X → Bool) (b : Bool) (y : X) (xs : List X) → cond (not b) (Some y) (find (λ x. not (test x)) xs) ≡ None → (b ≡ true) × (find (λ x. not (test x)) xs ≡ None)
missed_one test true y xs e = (refl, e)
missed_one test false y xs e = absurd cc

-- nothing that fails the test is found
pub all_pass : {X : Type 0} (test : X → Bool) (xs : List X) → find (λ x. not (test x)) xs ≡ None → AllByRecursion (λ x. test x ≡ true) xs
all_pass test [] e = tt
all_pass test (y ∷ xs) e = let it = missed_one test (test y) y xs e in (it.0, all_pass test xs it.1)

-- ---- none passes

passes_not : (first more : Bool) → not (first || more) ≡ true → (first ≡ false) × (not more ≡ true)
passes_not true more e = absurd cc
passes_not false more e = (refl, e)

-- where none passes the test, each fails it
pub none_passes : {X : Type 0} (test : X → Bool) (xs : List X) → not (list_any test xs) ≡ true → AllByRecursion (λ x. test x ≡ false) xs
none_passes test [] e = tt
none_passes test (x ∷ xs) e = let it = passes_not (test x) (list_any test xs) e in (it.0, none_passes test xs it.1)
