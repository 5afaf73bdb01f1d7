-- What a condition keeps of the members of a list, which a loop asks one after another.
use Rattle.std.proofs.Common.{◌≡◌, ℕ, ◌+◌, ◌<◌, Bool, true, false, cond, List, [], ◌∷◌, ◌++◌, length, get_or, take, drop, Ok, Err, refl, sym, ap, ◌∙◌, arith, add-one, map}
use Rattle.std.proofs.Math.Seq.{split_at}
use Rattle.std.proofs.lemmas.List.{append-nil, map-append}
use Rattle.std.proofs.lemmas.Grind.{common_steps}
use Rattle.ct_types.specs.declared.refusal.Refusal.{Refusal}
use Rattle.ct_types.specs.Answers.{Answer, ◌>>=◌}
use Rattle.ct_expr.specs.Conditions.{only}

-- ---- joined lists

only_step : {A : Type 0} (x : A) (o : Answer Bool) (m n w : Answer (List A)) → w ≡ (m >>= (λ a. n >>= (λ c. Ok (a ++ c))))
    → (o >>= (λ b. w >>= (λ rest. Ok (cond b (x ∷ rest) rest)))) ≡ ((o >>= (λ b. m >>= (λ rest. Ok (cond b (x ∷ rest) rest)))) >>= (λ a. n >>= (λ c. Ok (a ++ c))))
only_step x (Err r) m n w h = refl
only_step x (Ok b) (Err r) n w h = rw h
only_step x (Ok b) (Ok a) (Err r) w h = rw h
only_step x (Ok true) (Ok a) (Ok c) w h = rw h
only_step x (Ok false) (Ok a) (Ok c) w h = rw h

pub from_none : {A : Type 0} (o : Answer (List A)) → o ≡ (o >>= (λ c. Ok ([] ++ c)))
from_none (Err r) = refl
from_none (Ok c) = refl

only-append : {A : Type 0} (test : A → Answer Bool) (xs ys : List A) → only test (xs ++ ys) ≡ (only test xs >>= (λ a. only test ys >>= (λ c. Ok (a ++ c))))
only-append test [] ys = from_none (only test ys)
only-append test (x ∷ xs) ys = only_step x (test x) (only test xs) (only test ys) (only test (xs ++ ys)) (only-append test xs ys)

only-more : {A : Type 0} (test : A → Answer Bool) (xs : List A) (x : A) (made : List A) (b : Bool) → only test xs ≡ Ok made → test x ≡ Ok b → only test (xs ++ x ∷ []) ≡ Ok (made ++ cond b (x ∷ []) [])
only-more test xs x made b before here = only-append test xs (x ∷ []) ∙ rw (before, here)

only-stops : {A : Type 0} (test : A → Answer Bool) (xs rest : List A) (x : A) (made : List A) (r : Refusal) → only test xs ≡ Ok made → test x ≡ Err r → only test (xs ++ x ∷ rest) ≡ Err r
only-stops test xs rest x made r before here = only-append test xs (x ∷ rest) ∙ rw (before, here)

-- ---- places of a list

pub upto_next : {A : Type 0} (xs : List A) (i : ℕ) (x : A) → i < length xs → x ≡ get_or xs i x → take (i + 1) xs ≡ take i xs ++ x ∷ []
upto_next xs i x within is = grind (arith, common_steps)

pub parted : {A : Type 0} (xs : List A) (i : ℕ) (x : A) → i < length xs → x ≡ get_or xs i x → xs ≡ take i xs ++ x ∷ drop (i + 1) xs
parted xs i x within is = split_at xs i x within ∙ rw (add-one, ← is)

-- ---- a step of a loop over a list, where what is asked is made of its members

only-at : {A B : Type 0} (test : B → Answer Bool) (g : A → B) (xs : List A) (i : ℕ) (x : A) (made next : List B) (b : Bool) → i < length xs → x ≡ get_or xs i x
    → only test (map g (take i xs)) ≡ Ok made → test (g x) ≡ Ok b → next ≡ made ++ cond b (g x ∷ []) [] → only test (map g (take (i + 1) xs)) ≡ Ok next
only-at test g xs i x made next b within is before here e =
    ap (λ some. only test (map g some)) (upto_next xs i x within is) ∙ ap (only test) (map-append g (take i xs) (x ∷ [])) ∙ only-more test (map g (take i xs)) (g x) made b before here ∙ ap Ok (sym e)

-- a member that is refused
pub only-fails : {A B : Type 0} (test : B → Answer Bool) (g : A → B) (xs : List A) (i : ℕ) (x : A) (made : List B) (r : Refusal) → i < length xs → x ≡ get_or xs i x
    → only test (map g (take i xs)) ≡ Ok made → test (g x) ≡ Err r → only test (map g xs) ≡ Err r
only-fails test g xs i x made r within is before here =
    ap (λ some. only test (map g some)) (parted xs i x within is) ∙ ap (only test) (map-append g (take i xs) (x ∷ drop (i + 1) xs)) ∙ only-stops test (map g (take i xs)) (map g (drop (i + 1) xs)) (g x) made r before here

-- one that is kept
pub only-takes : {A B : Type 0} (test : B → Answer Bool) (g : A → B) (xs : List A) (i : ℕ) (x : A) (made next : List B) → i < length xs → x ≡ get_or xs i x
    → only test (map g (take i xs)) ≡ Ok made → test (g x) ≡ Ok true → next ≡ made ++ g x ∷ [] → only test (map g (take (i + 1) xs)) ≡ Ok next
only-takes test g xs i x made next within is before here e = only-at test g xs i x made next true within is before here e

-- and one that is left out
pub only-skips : {A B : Type 0} (test : B → Answer Bool) (g : A → B) (xs : List A) (i : ℕ) (x : A) (made next : List B) → i < length xs → x ≡ get_or xs i x
    → only test (map g (take i xs)) ≡ Ok made → test (g x) ≡ Ok false → next ≡ made → only test (map g (take (i + 1) xs)) ≡ Ok next
only-skips test g xs i x made next within is before here e = only-at test g xs i x made next false within is before here (e ∙ sym (append-nil made))
