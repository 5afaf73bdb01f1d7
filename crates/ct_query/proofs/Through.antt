-- What is made of the members of a list may be made of the list of them.
use Rattle.std.proofs.Common.{◌≡◌, Bool, true, false, cond, List, [], ◌∷◌, ◌++◌, map, Ok, Err, refl, sym, ap, ◌∙◌}
use Rattle.std.proofs.lemmas.Simd.{map-map}
use Rattle.ct_types.specs.Answers.{Answer, ◌>>=◌}
use Rattle.ct_expr.specs.Conditions.{only}
use Rattle.ct_scan.specs.Lists.{all_of}
use Rattle.ct_query.specs.Joins.{or_else}

-- ---- all_of

all_of_at : {B C : Type 0} (h : List B → List C) → ((a b : List B) → h (a ++ b) ≡ h a ++ h b)
    → (o m : Answer (List B)) (p n : Answer (List C)) → p ≡ (o >>= (λ a. Ok (h a))) → n ≡ (m >>= (λ a. Ok (h a)))
    → (p >>= (λ some. n >>= (λ rest. Ok (some ++ rest)))) ≡ ((o >>= (λ some. m >>= (λ rest. Ok (some ++ rest)))) >>= (λ a. Ok (h a)))
all_of_at h joins (Err r) m p n e f = rw e
all_of_at h joins (Ok a) (Err r) p n e f = rw (e, f)
all_of_at h joins (Ok a) (Ok b) p n e f = rw (e, f) (ap Ok (sym (joins a b)))

pub all_of-through : {A B C : Type 0} (h : List B → List C) → h [] ≡ [] → ((a b : List B) → h (a ++ b) ≡ h a ++ h b)
    → (f : A → Answer (List C)) (g : A → Answer (List B)) → ((x : A) → f x ≡ (g x >>= (λ a. Ok (h a))))
    → (xs : List A) → all_of f xs ≡ (all_of g xs >>= (λ a. Ok (h a)))
all_of-through h none joins f g each_one [] = ap Ok (sym none)
all_of-through h none joins f g each_one (x ∷ xs) = all_of_at h joins (g x) (all_of g xs) (f x) (all_of f xs) (each_one x) (all_of-through h none joins f g each_one xs)

-- ---- only

only_at : {A B : Type 0} (f : A → B) (x : A) (o : Answer Bool) (m : Answer (List A)) (n : Answer (List B)) → n ≡ (m >>= (λ a. Ok (map f a)))
    → (o >>= (λ b. n >>= (λ rest. Ok (cond b (f x ∷ rest) rest)))) ≡ ((o >>= (λ b. m >>= (λ rest. Ok (cond b (x ∷ rest) rest)))) >>= (λ a. Ok (map f a)))
only_at f x (Err r) m n e = refl
only_at f x (Ok b) (Err r) n e = rw e
only_at f x (Ok true) (Ok a) n e = rw e
only_at f x (Ok false) (Ok a) n e = rw e

pub only-mapped : {A B : Type 0} (test : B → Answer Bool) (f : A → B) (xs : List A) → only test (map f xs) ≡ (only (λ a. test (f a)) xs >>= (λ a. Ok (map f a)))
only-mapped test f [] = refl
only-mapped test f (x ∷ xs) = only_at f x (test (f x)) (only (λ a. test (f a)) xs) (only test (map f xs)) (only-mapped test f xs)

pub only-through : {A B C : Type 0} (test : B → Answer Bool) (f : A → B) (g : C → A) (xs : List C)
    → only test (map (λ c. f (g c)) xs) ≡ (only (λ a. test (f a)) (map g xs) >>= (λ a. Ok (map f a)))
only-through test f g xs = ap (only test) (sym (map-map f g xs)) ∙ only-mapped test f (map g xs)

-- ---- or_else

pub or_else-through : {A B : Type 0} (h : A → B) (other : A) (o : Answer (List A)) (p : Answer (List B)) → p ≡ (o >>= (λ a. Ok (map h a)))
    → (p >>= (λ found. Ok (or_else (h other) found))) ≡ ((o >>= (λ found. Ok (or_else other found))) >>= (λ a. Ok (map h a)))
or_else-through h other (Err r) p e = rw e
or_else-through h other (Ok []) p e = rw e
or_else-through h other (Ok (a ∷ more)) p e = rw e

pub or_else-some : {A : Type 0} (other a : A) (more : List A) → or_else other (a ∷ more) ≡ a ∷ more
or_else-some other a more = refl
