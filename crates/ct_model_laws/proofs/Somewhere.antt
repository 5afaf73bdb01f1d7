-- That some member of a list has a fact, where lists are filtered, joined and mapped.
use Rattle.std.proofs.Common.{◌≡◌, ◌<◌, ◌⊎◌, inl, inr, ℕ, zero, suc, Bool, true, false, cond, List, [], ◌∷◌, ◌++◌, map, filter, flat_map, filter_map, length, get_or, Contains, Option, None, Some, IsSomeAnd, refl, sym, arith}
use Rattle.std.specs.List.{AllByRecursion, cons_option, list_any}
use Rattle.std.proofs.Common.{◌||◌}

abbrev pub Somewhere : {X : Type 0} → (X → Type 0) → List X → Type 0
Somewhere P [] = ⊥
Somewhere P (x ∷ xs) = P x ⊎ Somewhere P xs

pub some_weaken : {X : Type 0} (P Q : X → Type 0) → ((x : X) → P x → Q x) → (xs : List X) → Somewhere P xs → Somewhere Q xs
some_weaken P Q weaken [] h = elim h [ ]
some_weaken P Q weaken (x ∷ xs) (inl h) = inl (weaken x h)
some_weaken P Q weaken (x ∷ xs) (inr h) = inr (some_weaken P Q weaken xs h)

pub some_constant : {X : Type 0} (C : Type 0) (xs : List X) → Somewhere (λ x. C) xs → C
some_constant C [] h = elim h [ ]
some_constant C (x ∷ xs) (inl h) = h
some_constant C (x ∷ xs) (inr h) = some_constant C xs h

pub some_append_left : {X : Type 0} (P : X → Type 0) (xs ys : List X) → Somewhere P xs → Somewhere P (xs ++ ys)
some_append_left P [] ys h = elim h [ ]
some_append_left P (x ∷ xs) ys (inl h) = inl h
some_append_left P (x ∷ xs) ys (inr h) = inr (some_append_left P xs ys h)

pub some_append_right : {X : Type 0} (P : X → Type 0) (xs ys : List X) → Somewhere P ys → Somewhere P (xs ++ ys)
some_append_right P [] ys h = h
some_append_right P (x ∷ xs) ys h = inr (some_append_right P xs ys h)

pub some_from_append : {X : Type 0} (P : X → Type 0) (xs ys : List X) → Somewhere P (xs ++ ys) → Somewhere P xs ⊎ Somewhere P ys
some_from_append P [] ys h = inr h
some_from_append P (x ∷ xs) ys (inl h) = inl (inl h)
some_from_append P (x ∷ xs) ys (inr h) = later (some_from_append P xs ys h)
  where
    later : Somewhere P xs ⊎ Somewhere P ys → Somewhere P (x ∷ xs) ⊎ Somewhere P ys
    later (inl g) = inl (inr g)
    later (inr g) = inr g

pub some_map : {X Y : Type 0} (P : X → Type 0) (Q : Y → Type 0) (f : X → Y) → ((x : X) → P x → Q (f x)) → (xs : List X) → Somewhere P xs
    → Somewhere Q (map f xs)
some_map P Q f keeps [] h = elim h [ ]
some_map P Q f keeps (x ∷ xs) (inl h) = inl (keeps x h)
some_map P Q f keeps (x ∷ xs) (inr h) = inr (some_map P Q f keeps xs h)

pub some_from_map : {X Y : Type 0} (P : X → Type 0) (Q : Y → Type 0) (f : X → Y) → ((x : X) → Q (f x) → P x) → (xs : List X)
    → Somewhere Q (map f xs) → Somewhere P xs
some_from_map P Q f keeps [] h = elim h [ ]
some_from_map P Q f keeps (x ∷ xs) (inl h) = inl (keeps x h)
some_from_map P Q f keeps (x ∷ xs) (inr h) = inr (some_from_map P Q f keeps xs h)

-- a member that passes the test is left
pub some_filter : {X : Type 0} (P : X → Type 0) (p : X → Bool) → ((x : X) → P x → p x ≡ true) → (xs : List X) → Somewhere P xs
    → Somewhere P (filter p xs)
some_filter P p passes [] h = elim h [ ]
some_filter P p passes (x ∷ xs) (inl h) = rw (passes x h) (inl h)
some_filter P p passes (x ∷ xs) (inr h) =
    elim (p x) as (λ b. Somewhere P (cond b (x ∷ filter p xs) (filter p xs))) [ true ↦ inr (some_filter P p passes xs h) | false ↦ some_filter P p passes xs h ]

pub some_from_filter : {X : Type 0} (P Q : X → Type 0) (p : X → Bool) → ((x : X) → p x ≡ true → P x → Q x) → (xs : List X)
    → Somewhere P (filter p xs) → Somewhere Q xs
some_from_filter P Q p passed [] h = elim h [ ]
some_from_filter P Q p passed (x ∷ xs) h =
    let first : P x ⊎ Somewhere P (filter p xs) → p x ≡ true → Q x ⊎ Somewhere Q xs =
    elim [ inl g ↦ (λ e. inl (passed x e g)) | inr g ↦ (λ e. inr (some_from_filter P Q p passed xs g)) ] in
    let step : (b : Bool) → b ≡ p x → Somewhere P (cond b (x ∷ filter p xs) (filter p xs)) → Somewhere Q (x ∷ xs) =
    elim [ true ↦ (λ e g. first g (sym e)) | false ↦ (λ e g. inr (some_from_filter P Q p passed xs g)) ] in
    step (p x) refl h

pub some_flat_map : {X Y : Type 0} (P : X → Type 0) (Q : Y → Type 0) (f : X → List Y) → ((x : X) → P x → Somewhere Q (f x)) → (xs : List X)
    → Somewhere P xs → Somewhere Q (flat_map f xs)
some_flat_map P Q f keeps [] h = elim h [ ]
some_flat_map P Q f keeps (x ∷ xs) (inl h) = some_append_left Q (f x) (flat_map f xs) (keeps x h)
some_flat_map P Q f keeps (x ∷ xs) (inr h) = some_append_right Q (f x) (flat_map f xs) (some_flat_map P Q f keeps xs h)

pub some_from_flat_map : {X Y : Type 0} (P : X → Type 0) (Q : Y → Type 0) (f : X → List Y) → ((x : X) → Somewhere Q (f x) → P x)
    → (xs : List X) → Somewhere Q (flat_map f xs) → Somewhere P xs
some_from_flat_map P Q f keeps [] h = elim h [ ]
some_from_flat_map P Q f keeps (x ∷ xs) h =
    let step : Somewhere Q (f x) ⊎ Somewhere Q (flat_map f xs) → Somewhere P (x ∷ xs) =
    elim [ inl g ↦ inl (keeps x g) | inr g ↦ inr (some_from_flat_map P Q f keeps xs g) ] in
    step (some_from_append Q (f x) (flat_map f xs) h)

pub some_filter_map : {X Y : Type 0} (P : X → Type 0) (Q : Y → Type 0) (f : X → Option Y) → ((x : X) → P x → IsSomeAnd (f x) Q)
    → (xs : List X) → Somewhere P xs → Somewhere Q (filter_map f xs)
some_filter_map P Q f keeps [] h = elim h [ ]
some_filter_map P Q f keeps (x ∷ xs) (inl h) =
    let step : (o : Option _) → IsSomeAnd o Q → Somewhere Q (cons_option o (filter_map f xs)) = elim [ None ↦ (λ g. elim g [ ]) | Some y ↦ (λ g. inl g) ] in
    step (f x) (keeps x h)
some_filter_map P Q f keeps (x ∷ xs) (inr h) =
    elim (f x) as (λ o. Somewhere Q (cons_option o (filter_map f xs))) [ None ↦ some_filter_map P Q f keeps xs h | Some y ↦ inr (some_filter_map P Q f keeps xs h) ]

pub some_from_filter_map : {X Y : Type 0} (P : X → Type 0) (Q : Y → Type 0) (f : X → Option Y) → ((x : X) → IsSomeAnd (f x) Q → P x)
    → (xs : List X) → Somewhere Q (filter_map f xs) → Somewhere P xs
some_from_filter_map P Q f keeps [] h = elim h [ ]
some_from_filter_map {X} {Y} P Q f keeps (x ∷ xs) h =
    let later = some_from_filter_map P Q f keeps xs in
    let step : (o : Option Y) → o ≡ f x → Somewhere Q (cons_option o (filter_map f xs)) → Somewhere P (x ∷ xs) =
    elim [ None ↦ (λ e g. inr (later g)) | Some y ↦ (λ e g. split y e g later) ] in
    step (f x) refl h
  where
    split : (y : Y) → Some y ≡ f x → Q y ⊎ Somewhere Q (filter_map f xs) → (Somewhere Q (filter_map f xs) → Somewhere P xs)
        → P x ⊎ Somewhere P xs
    split y e (inl g) later = inl (keeps x (rw (← e) g))
    split y e (inr g) later = inr (later g)

pub any_from_some : {X : Type 0} (P : X → Type 0) (p : X → Bool) → ((x : X) → P x → p x ≡ true) → (xs : List X) → Somewhere P xs
    → list_any p xs ≡ true
any_from_some P p passes [] h = elim h [ ]
any_from_some P p passes (x ∷ xs) (inl h) = rw (passes x h) refl
any_from_some P p passes (x ∷ xs) (inr h) = rw (any_from_some P p passes xs h) (elim (p x) as (λ b. (b || true) ≡ true) [ true ↦ refl | false ↦ refl ])

pub contains_from_some : {X : Type 0} (x : X) (xs : List X) → Somewhere (λ y. y ≡ x) xs → Contains xs x
contains_from_some x [] h = elim h [ ]
contains_from_some x (y ∷ ys) (inl e) = (zero, omega arith, e)
contains_from_some x (y ∷ ys) (inr h) = let found : Contains ys x = contains_from_some x ys h in (suc found.0, omega (arith, found.1), found.2)

some_from_place : {X : Type 0} (x : X) (xs : List X) (k : ℕ) → k < length xs → get_or xs k x ≡ x → Somewhere (λ y. y ≡ x) xs
some_from_place x [] k lt e = absurd (omega arith)
some_from_place x (y ∷ ys) zero lt e = inl e
some_from_place x (y ∷ ys) (suc k) lt e = inr (some_from_place x ys k (omega arith) e)

pub some_from_contains : {X : Type 0} (x : X) (xs : List X) → Contains xs x → Somewhere (λ y. y ≡ x) xs
some_from_contains x xs found = some_from_place x xs found.0 found.1 found.2

-- some member has a fact, and each has another
pub some_join : {X : Type 0} (P Q R : X → Type 0) → ((x : X) → P x → Q x → R x) → (xs : List X) → Somewhere P xs → AllByRecursion Q xs
    → Somewhere R xs
some_join P Q R join [] h all = elim h [ ]
some_join P Q R join (x ∷ xs) (inl h) all = inl (join x h all.0)
some_join P Q R join (x ∷ xs) (inr h) all = inr (some_join P Q R join xs h all.1)
