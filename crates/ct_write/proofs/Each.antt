-- Steps for the members of a list that is joined of two.
use Rattle.std.proofs.Common.{◌≡◌, ℕ, ◌+◌, ◌<◌, List, [], ◌∷◌, ◌++◌, length, map, take, drop, get_or, Ok, Err, refl, sym, ap, ◌∙◌}
use Rattle.std.proofs.lemmas.List.{map-append, take-append-drop, drop_more, take_more}
use Rattle.std.specs.List.{AllByRecursion}
use Rattle.ct_types.specs.declared.refusal.Refusal.{Refusal}
use Rattle.ct_types.proofs.Lists.{all_append}
use Rattle.ct_types.specs.Answers.{Answer, ◌>>=◌, Gives, each}
use Rattle.ct_write.specs.Steps.{in_turn}

-- a list up to a member, the member, and the rest
split_at : {A : Type 0} (xs : List A) (i : ℕ) (x : A) → i < length xs → x ≡ get_or xs i x → take i xs ++ x ∷ drop (i + 1) xs ≡ xs
split_at xs i x lt is = ap (λ y. take i xs ++ y ∷ drop (i + 1) xs) is ∙ (ap (λ ys. take i xs ++ ys) (sym (drop_more xs i x lt)) ∙ take-append-drop i xs)

front_more : {A : Type 0} (xs : List A) (i : ℕ) (x : A) → i < length xs → x ≡ get_or xs i x → take (i + 1) xs ≡ take i xs ++ x ∷ []
front_more xs i x lt is = take_more xs i x lt ∙ ap (λ y. take i xs ++ y ∷ []) (sym is)

-- ---- what each member comes to

join_each : {B : Type 0} (r : Answer B) (p q w : Answer (List B)) → w ≡ (p >>= (λ made. q >>= (λ bs. Ok (made ++ bs))))
    → (r >>= (λ a. w >>= (λ cs. Ok (a ∷ cs)))) ≡ ((r >>= (λ a. p >>= (λ made. Ok (a ∷ made)))) >>= (λ made. q >>= (λ bs. Ok (made ++ bs))))
join_each (Err e) p q w h = refl
join_each (Ok a) (Err e) q w h = rw h refl
join_each (Ok a) (Ok ys) (Err e) w h = rw h refl
join_each (Ok a) (Ok ys) (Ok bs) w h = rw h refl

unit_each : {B : Type 0} (r : Answer (List B)) → r ≡ (r >>= (λ bs. Ok ([] ++ bs)))
unit_each (Ok bs) = refl
unit_each (Err e) = refl

each_append : {A B : Type 0} (f : A → Answer B) (xs ys : List A) → each f (xs ++ ys) ≡ (each f xs >>= (λ made. each f ys >>= (λ bs. Ok (made ++ bs))))
each_append f [] ys = unit_each (each f ys)
each_append f (x ∷ xs) ys = join_each (f x) (each f xs) (each f ys) (each f (xs ++ ys)) (each_append f xs ys)

-- one member more
pub each_more : {A B : Type 0} (f : A → Answer B) (xs : List A) (i : ℕ) (x : A) (ys : List B) (y : B)
    → i < length xs → x ≡ get_or xs i x → each f (take i xs) ≡ Ok ys → f x ≡ Ok y → each f (take (i + 1) xs) ≡ Ok (ys ++ y ∷ [])
each_more f xs i x ys y lt is front here = rw (front_more xs i x lt is) (rw (each_append f (take i xs) (x ∷ [])) (rw (front, here) refl))

-- a member that is refused
pub each_stops : {A B : Type 0} (f : A → Answer B) (xs : List A) (i : ℕ) (x : A) (ys : List B) (e : Refusal)
    → i < length xs → x ≡ get_or xs i x → each f (take i xs) ≡ Ok ys → Gives (f x) (Err e) → Gives (each f xs) (Err e)
each_stops f xs i x ys e lt is front here other =
    let stops : each f (take i xs ++ x ∷ drop (i + 1) xs) ≡ Err e = rw (each_append f (take i xs) (x ∷ drop (i + 1) xs)) (rw (front, here other) refl) in
    ap (each f) (sym (split_at xs i x lt is)) ∙ stops

-- the same of members that are made of those of another list
pub each_of_more : {A B C : Type 0} (f : B → Answer C) (g : A → B) (xs : List A) (i : ℕ) (x : A) (ys : List C) (y : C)
    → i < length xs → x ≡ get_or xs i x → each f (map g (take i xs)) ≡ Ok ys → f (g x) ≡ Ok y → each f (map g (take (i + 1) xs)) ≡ Ok (ys ++ y ∷ [])
each_of_more f g xs i x ys y lt is front here =
    rw (front_more xs i x lt is) (rw (map-append g (take i xs) (x ∷ [])) (rw (each_append f (map g (take i xs)) (g x ∷ [])) (rw (front, here) refl)))

pub each_of_stops : {A B C : Type 0} (f : B → Answer C) (g : A → B) (xs : List A) (i : ℕ) (x : A) (ys : List C) (e : Refusal)
    → i < length xs → x ≡ get_or xs i x → each f (map g (take i xs)) ≡ Ok ys → Gives (f (g x)) (Err e) → Gives (each f (map g xs)) (Err e)
each_of_stops f g xs i x ys e lt is front here other =
    let stops : each f (map g (take i xs ++ x ∷ drop (i + 1) xs)) ≡ Err e =
    rw (map-append g (take i xs) (x ∷ drop (i + 1) xs)) (rw (each_append f (map g (take i xs)) (g x ∷ map g (drop (i + 1) xs))) (rw (front, here other) refl)) in
    ap (λ all. each f (map g all)) (sym (split_at xs i x lt is)) ∙ stops

-- ---- whether each member passes

join_turns : (r p q w : Answer (Unit {0})) → w ≡ (p >>= (λ passed. q)) → (r >>= (λ passed. w)) ≡ ((r >>= (λ passed. p)) >>= (λ passed. q))
join_turns (Err e) p q w h = refl
join_turns (Ok a) p q w h = h

in_turn_append : {A : Type 0} (f : A → Answer (Unit {0})) (xs ys : List A) → in_turn f (xs ++ ys) ≡ (in_turn f xs >>= (λ passed. in_turn f ys))
in_turn_append f [] ys = refl
in_turn_append f (x ∷ xs) ys = join_turns (f x) (in_turn f xs) (in_turn f ys) (in_turn f (xs ++ ys)) (in_turn_append f xs ys)

pub in_turn_more : {A : Type 0} (f : A → Answer (Unit {0})) (xs : List A) (i : ℕ) (x : A)
    → i < length xs → x ≡ get_or xs i x → in_turn f (take i xs) ≡ Ok tt → f x ≡ Ok tt → in_turn f (take (i + 1) xs) ≡ Ok tt
in_turn_more f xs i x lt is front here = rw (front_more xs i x lt is) (rw (in_turn_append f (take i xs) (x ∷ [])) (rw (front, here) refl))

pub in_turn_stops : {A : Type 0} (f : A → Answer (Unit {0})) (xs : List A) (i : ℕ) (x : A) (e : Refusal)
    → i < length xs → x ≡ get_or xs i x → in_turn f (take i xs) ≡ Ok tt → Gives (f x) (Err e) → Gives (in_turn f xs) (Err e)
in_turn_stops f xs i x e lt is front here other =
    let stops : in_turn f (take i xs ++ x ∷ drop (i + 1) xs) ≡ Err e = rw (in_turn_append f (take i xs) (x ∷ drop (i + 1) xs)) (rw (front, here other) refl) in
    ap (in_turn f) (sym (split_at xs i x lt is)) ∙ stops

-- ---- what holds of each member

pub all_more : {A : Type 0} (P : A → Type 0) (xs : List A) (i : ℕ) (x : A)
    → i < length xs → x ≡ get_or xs i x → AllByRecursion P (take i xs) → P x → AllByRecursion P (take (i + 1) xs)
all_more P xs i x lt is front here = rw (front_more xs i x lt is) (all_append P (take i xs) (x ∷ []) front (here, tt))
