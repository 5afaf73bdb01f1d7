-- What holds of each member of a list, or of each member and every later one, where lists are filtered, joined and mapped.
use Rattle.std.proofs.Common.{◌≡◌, Bool, true, false, cond, if◌then◌else◌, List, [], ◌∷◌, ◌++◌, map, filter, refl, sym}
use Rattle.std.specs.List.{AllByRecursion}
use Rattle.ct_types.proofs.Lists.{all_append}
use Rattle.ct_model.specs.Lists.{EachToLater}

pub all_weaken : {X : Type 0} (P Q : X → Type 0) → ((x : X) → P x → Q x) → (xs : List X) → AllByRecursion P xs → AllByRecursion Q xs
all_weaken P Q weaken [] all = tt
all_weaken P Q weaken (x ∷ xs) all = (weaken x all.0, all_weaken P Q weaken xs all.1)

pub all_map : {X Y : Type 0} (P : X → Type 0) (Q : Y → Type 0) (f : X → Y) → ((x : X) → P x → Q (f x)) → (xs : List X) → AllByRecursion P xs
    → AllByRecursion Q (map f xs)
all_map P Q f keeps [] all = tt
all_map P Q f keeps (x ∷ xs) all = (keeps x all.0, all_map P Q f keeps xs all.1)

-- a member that is left passes the test
pub all_filter : {X : Type 0} (P Q : X → Type 0) (p : X → Bool) → ((x : X) → p x ≡ true → P x → Q x) → (xs : List X) → AllByRecursion P xs
    → AllByRecursion Q (filter p xs)
all_filter P Q p passes [] all = tt
all_filter P Q p passes (x ∷ xs) all =
    let step : (b : Bool) → b ≡ p x → AllByRecursion Q (cond b (x ∷ filter p xs) (filter p xs)) =
    elim [ true ↦ (λ e. (passes x (sym e) all.0, all_filter P Q p passes xs all.1)) | false ↦ (λ e. all_filter P Q p passes xs all.1) ] in
    step (p x) refl

pub each_filter : {X : Type 0} (R : X → X → Type 0) (p : X → Bool) (xs : List X) → EachToLater R xs → EachToLater R (filter p xs)
each_filter R p [] each = tt
each_filter R p (x ∷ xs) each =
    elim (p x) as (λ b. EachToLater R (cond b (x ∷ filter p xs) (filter p xs)))
    [ true ↦ (all_filter (R x) (R x) p (λ y e r. r) xs each.0, each_filter R p xs each.1) | false ↦ each_filter R p xs each.1 ]

pub each_append : {X : Type 0} (R : X → X → Type 0) (xs ys : List X) → EachToLater R xs → EachToLater R ys
    → AllByRecursion (λ x. AllByRecursion (R x) ys) xs → EachToLater R (xs ++ ys)
each_append R [] ys p q cross = q
each_append R (x ∷ xs) ys p q cross = (all_append (R x) xs ys p.0 cross.0, each_append R xs ys p.1 q cross.1)

pub each_map : {X Y : Type 0} (R : X → X → Type 0) (S : Y → Y → Type 0) (f : X → Y) → ((x y : X) → R x y → S (f x) (f y)) → (xs : List X)
    → EachToLater R xs → EachToLater S (map f xs)
each_map R S f keeps [] each = tt
each_map R S f keeps (x ∷ xs) each = (all_map (R x) (S (f x)) f (keeps x) xs each.0, each_map R S f keeps xs each.1)

-- one more member at the end, or none
pub all_added : {X : Type 0} (P : X → Type 0) (adds : Bool) (xs : List X) (x : X) → AllByRecursion P xs → (adds ≡ true → P x)
    → AllByRecursion P (if adds then xs ++ x ∷ [] else xs)
all_added P true xs x all last = all_append P xs (x ∷ []) all (last refl, tt)
all_added P false xs x all last = all

pub each_added : {X : Type 0} (R : X → X → Type 0) (adds : Bool) (xs : List X) (x : X) → EachToLater R xs
    → (adds ≡ true → AllByRecursion (λ y. R y x) xs) → EachToLater R (if adds then xs ++ x ∷ [] else xs)
each_added R true xs x each last = each_append R xs (x ∷ []) each (tt, tt) (all_weaken (λ y. R y x) _ (λ y r. (r, tt)) xs (last refl))
each_added R false xs x each last = each
