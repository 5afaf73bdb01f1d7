-- Outcomes over joined lists, and the step of a loop that goes over a list.
use Rattle.std.proofs.Common.{◌≡◌, ℕ, ◌+◌, ◌<◌, Bool, true, false, List, [], ◌∷◌, ◌++◌, length, get_or, take, drop, Ok, Err, refl, sym, ap, ◌∙◌, append_assoc, map}
use Rattle.std.proofs.lemmas.List.{append-nil, map-append}
use Rattle.std.proofs.lemmas.Simd.{map-map}
use Rattle.ct_types.specs.declared.refusal.Refusal.{Refusal}
use Rattle.ct_types.specs.Answers.{Answer, ◌>>=◌, each}
use Rattle.ct_expr.specs.Conditions.{only}
use Rattle.ct_scan.proofs.Asked.{from_none, upto_next, parted, only-fails, only-takes, only-skips}
use Rattle.ct_scan.specs.Lists.{all_of}

-- ---- joined lists

each_step : {B : Type 0} (o : Answer B) (m n w : Answer (List B)) → w ≡ (m >>= (λ a. n >>= (λ c. Ok (a ++ c))))
    → (o >>= (λ b. w >>= (λ rest. Ok (b ∷ rest)))) ≡ ((o >>= (λ b. m >>= (λ rest. Ok (b ∷ rest)))) >>= (λ a. n >>= (λ c. Ok (a ++ c))))
each_step (Err r) m n w h = refl
each_step (Ok b) (Err r) n w h = rw h
each_step (Ok b) (Ok a) (Err r) w h = rw h
each_step (Ok b) (Ok a) (Ok c) w h = rw h

all_of_step : {B : Type 0} (o : Answer (List B)) (m n w : Answer (List B)) → w ≡ (m >>= (λ a. n >>= (λ c. Ok (a ++ c))))
    → (o >>= (λ some. w >>= (λ rest. Ok (some ++ rest)))) ≡ ((o >>= (λ some. m >>= (λ rest. Ok (some ++ rest)))) >>= (λ a. n >>= (λ c. Ok (a ++ c))))
all_of_step (Err r) m n w h = refl
all_of_step (Ok b) (Err r) n w h = rw h
all_of_step (Ok b) (Ok a) (Err r) w h = rw h
all_of_step (Ok b) (Ok a) (Ok c) w h = rw h (ap Ok (sym (append_assoc b a c)))

each-append : {A B : Type 0} (f : A → Answer B) (xs ys : List A) → each f (xs ++ ys) ≡ (each f xs >>= (λ a. each f ys >>= (λ c. Ok (a ++ c))))
each-append f [] ys = from_none (each f ys)
each-append f (x ∷ xs) ys = each_step (f x) (each f xs) (each f ys) (each f (xs ++ ys)) (each-append f xs ys)

all_of-append : {A B : Type 0} (f : A → Answer (List B)) (xs ys : List A) → all_of f (xs ++ ys) ≡ (all_of f xs >>= (λ a. all_of f ys >>= (λ c. Ok (a ++ c))))
all_of-append f [] ys = from_none (all_of f ys)
all_of-append f (x ∷ xs) ys = all_of_step (f x) (all_of f xs) (all_of f ys) (all_of f (xs ++ ys)) (all_of-append f xs ys)

-- ---- one more member

each-more : {A B : Type 0} (f : A → Answer B) (xs : List A) (x : A) (made : List B) (b : B) → each f xs ≡ Ok made → f x ≡ Ok b → each f (xs ++ x ∷ []) ≡ Ok (made ++ b ∷ [])
each-more f xs x made b before here = each-append f xs (x ∷ []) ∙ rw (before, here)

all_of-more : {A B : Type 0} (f : A → Answer (List B)) (xs : List A) (x : A) (made b : List B) → all_of f xs ≡ Ok made → f x ≡ Ok b → all_of f (xs ++ x ∷ []) ≡ Ok (made ++ b)
all_of-more f xs x made b before here = all_of-append f xs (x ∷ []) ∙ rw (before, here, append-nil)

-- ---- a member that is refused

each-stops : {A B : Type 0} (f : A → Answer B) (xs rest : List A) (x : A) (made : List B) (r : Refusal) → each f xs ≡ Ok made → f x ≡ Err r → each f (xs ++ x ∷ rest) ≡ Err r
each-stops f xs rest x made r before here = each-append f xs (x ∷ rest) ∙ rw (before, here)

all_of-stops : {A B : Type 0} (f : A → Answer (List B)) (xs rest : List A) (x : A) (made : List B) (r : Refusal) → all_of f xs ≡ Ok made → f x ≡ Err r → all_of f (xs ++ x ∷ rest) ≡ Err r
all_of-stops f xs rest x made r before here = all_of-append f xs (x ∷ rest) ∙ rw (before, here)

-- ---- a step of a loop over a list

pub each-at : {A B : Type 0} (f : A → Answer B) (xs : List A) (i : ℕ) (x : A) (made next : List B) (b : B) → i < length xs → x ≡ get_or xs i x
    → each f (take i xs) ≡ Ok made → f x ≡ Ok b → next ≡ made ++ b ∷ [] → each f (take (i + 1) xs) ≡ Ok next
each-at f xs i x made next b within is before here e = ap (each f) (upto_next xs i x within is) ∙ each-more f (take i xs) x made b before here ∙ ap Ok (sym e)

pub each-fails : {A B : Type 0} (f : A → Answer B) (xs : List A) (i : ℕ) (x : A) (made : List B) (r : Refusal) → i < length xs → x ≡ get_or xs i x
    → each f (take i xs) ≡ Ok made → f x ≡ Err r → each f xs ≡ Err r
each-fails f xs i x made r within is before here = ap (each f) (parted xs i x within is) ∙ each-stops f (take i xs) (drop (i + 1) xs) x made r before here

-- ---- what is made of the members of another list

pub each_of-at : {A B C : Type 0} (f : B → Answer C) (g : A → B) (xs : List A) (i : ℕ) (x : A) (made next : List C) (c : C) → i < length xs → x ≡ get_or xs i x
    → each f (map g (take i xs)) ≡ Ok made → f (g x) ≡ Ok c → next ≡ made ++ c ∷ [] → each f (map g (take (i + 1) xs)) ≡ Ok next
each_of-at f g xs i x made next c within is before here e =
    ap (λ some. each f (map g some)) (upto_next xs i x within is) ∙ ap (each f) (map-append g (take i xs) (x ∷ [])) ∙ each-more f (map g (take i xs)) (g x) made c before here ∙ ap Ok (sym e)

pub each_of-fails : {A B C : Type 0} (f : B → Answer C) (g : A → B) (xs : List A) (i : ℕ) (x : A) (made : List C) (r : Refusal) → i < length xs → x ≡ get_or xs i x
    → each f (map g (take i xs)) ≡ Ok made → f (g x) ≡ Err r → each f (map g xs) ≡ Err r
each_of-fails f g xs i x made r within is before here =
    ap (λ some. each f (map g some)) (parted xs i x within is) ∙ ap (each f) (map-append g (take i xs) (x ∷ drop (i + 1) xs)) ∙ each-stops f (map g (take i xs)) (map g (drop (i + 1) xs)) (g x) made r before here

pub all_of-at : {A B C : Type 0} (f : B → Answer (List C)) (g : A → B) (xs : List A) (i : ℕ) (x : A) (made next c : List C) → i < length xs → x ≡ get_or xs i x
    → all_of f (map g (take i xs)) ≡ Ok made → f (g x) ≡ Ok c → next ≡ made ++ c → all_of f (map g (take (i + 1) xs)) ≡ Ok next
all_of-at f g xs i x made next c within is before here e =
    ap (λ some. all_of f (map g some)) (upto_next xs i x within is) ∙ ap (all_of f) (map-append g (take i xs) (x ∷ [])) ∙ all_of-more f (map g (take i xs)) (g x) made c before here ∙ ap Ok (sym e)

pub all_of-fails : {A B C : Type 0} (f : B → Answer (List C)) (g : A → B) (xs : List A) (i : ℕ) (x : A) (made : List C) (r : Refusal) → i < length xs → x ≡ get_or xs i x
    → all_of f (map g (take i xs)) ≡ Ok made → f (g x) ≡ Err r → all_of f (map g xs) ≡ Err r
all_of-fails f g xs i x made r within is before here =
    ap (λ some. all_of f (map g some)) (parted xs i x within is) ∙ ap (all_of f) (map-append g (take i xs) (x ∷ drop (i + 1) xs)) ∙ all_of-stops f (map g (take i xs)) (map g (drop (i + 1) xs)) (g x) made r before here

-- ---- what is kept of what is made of members that are lent

pub only_of-takes : {A B C : Type 0} (test : C → Answer Bool) (f : B → C) (g : A → B) (xs : List A) (i : ℕ) (x : A) (made next : List C) → i < length xs → x ≡ get_or xs i x
    → only test (map f (map g (take i xs))) ≡ Ok made → test (f (g x)) ≡ Ok true → next ≡ made ++ f (g x) ∷ [] → only test (map f (map g (take (i + 1) xs))) ≡ Ok next
only_of-takes test f g xs i x made next within is before here e =
    ap (only test) (map-map f g (take (i + 1) xs)) ∙ only-takes test (λ a. f (g a)) xs i x made next within is (ap (only test) (sym (map-map f g (take i xs))) ∙ before) here e

pub only_of-skips : {A B C : Type 0} (test : C → Answer Bool) (f : B → C) (g : A → B) (xs : List A) (i : ℕ) (x : A) (made next : List C) → i < length xs → x ≡ get_or xs i x
    → only test (map f (map g (take i xs))) ≡ Ok made → test (f (g x)) ≡ Ok false → next ≡ made → only test (map f (map g (take (i + 1) xs))) ≡ Ok next
only_of-skips test f g xs i x made next within is before here e =
    ap (only test) (map-map f g (take (i + 1) xs)) ∙ only-skips test (λ a. f (g a)) xs i x made next within is (ap (only test) (sym (map-map f g (take i xs))) ∙ before) here e

pub only_of-fails : {A B C : Type 0} (test : C → Answer Bool) (f : B → C) (g : A → B) (xs : List A) (i : ℕ) (x : A) (made : List C) (r : Refusal) → i < length xs → x ≡ get_or xs i x
    → only test (map f (map g (take i xs))) ≡ Ok made → test (f (g x)) ≡ Err r → only test (map f (map g xs)) ≡ Err r
only_of-fails test f g xs i x made r within is before here =
    ap (only test) (map-map f g xs) ∙ only-fails test (λ a. f (g a)) xs i x made r within is (ap (only test) (sym (map-map f g (take i xs))) ∙ before) here
