-- The groups of a mask's bytes are its ids.
use Rattle.std.proofs.Common.{◌≡◌, ℕ, zero, suc, ◌+◌, ◌<◌, ◌≤◌, ◌^◌, ℤ, pos, negsuc, ◌==◌, ◌||◌, ◌&&◌, Bool, true, false, if◌then◌else◌, nat_lt, nat_le, List, [], ◌∷◌, ◌++◌, w32, refl, sym, ◌∙◌, ap, append_assoc, arith}
use Rattle.std.specs.Ordering.{int_eq}
use Rattle.std.specs.List.{list_any}
use Rattle.std.specs.Int.{to_le_bytes, from_le_bytes}
use Rattle.std.proofs.lemmas.Bool.Decides.{nat_tests}
use Rattle.std.proofs.lemmas.List.Folds.{list_any-append}
use Rattle.std.proofs.lemmas.Nat.{from_le_bytes-to_le_bytes_4}
use Rattle.ct_mask.specs.Masks.{has_id, id_upto, ids_upto, spelled, groups, bytes_of}
use Rattle.ct_mask.specs.Laws.{ReadsWhatItHas}

-- ---- the ids of a set up to one

pub ids_upto-none : (mask : ℕ) → ids_upto 0 mask ≡ []
unfolding ids_upto
ids_upto-none mask = refl

pub ids_upto-more : (n mask : ℕ) → ids_upto (suc n) mask ≡ ids_upto n mask ++ id_upto (suc n) mask
unfolding ids_upto
ids_upto-more n mask = refl

-- an id up to n is below 2 ^ 32
abbrev AreUpto : ℕ → List ℕ → Type 0
AreUpto n [] = Unit {0}
AreUpto n (id ∷ ids) = (id ≤ n) × AreUpto n ids

AreUpto-append : (n : ℕ) (xs ys : List ℕ) → AreUpto n xs → AreUpto n ys → AreUpto n (xs ++ ys)
AreUpto-append n [] ys a b = b
AreUpto-append n (x ∷ xs) ys a b = (a.0, AreUpto-append n xs ys a.1 b)

AreUpto-more : (n : ℕ) (xs : List ℕ) → AreUpto n xs → AreUpto (suc n) xs
AreUpto-more n [] a = tt
AreUpto-more n (x ∷ xs) a = (omega (arith, a.0), AreUpto-more n xs a.1)

id_upto-are : (n : ℕ) (has : Bool) → AreUpto n (if has then n ∷ [] else [])
id_upto-are n true = (omega arith, tt)
id_upto-are n false = tt

ids_upto-are : (n mask : ℕ) → AreUpto n (ids_upto n mask)
ids_upto-are zero mask = rw (ids_upto-none mask) tt
ids_upto-are (suc n) mask = rw (ids_upto-more n mask) (AreUpto-append (suc n) (ids_upto n mask) (id_upto (suc n) mask) (AreUpto-more n (ids_upto n mask) (ids_upto-are n mask)) (id_upto-are (suc n) (has_id mask (suc n))))

-- ---- their bytes, read back

groups-spelled : (n : ℕ) (ids : List ℕ) → n < 2 ^ 32 → AreUpto n ids → groups (spelled ids) ≡ ids
groups-spelled n [] small a = refl
groups-spelled n (id ∷ ids) small a =
    let first : from_le_bytes w32 (to_le_bytes w32 id) ≡ id = from_le_bytes-to_le_bytes_4 id (omega (arith, a.0)) in
    ap (λ x. x ∷ groups (spelled ids)) first ∙ ap (λ xs. id ∷ xs) (groups-spelled n ids small a.1)

pub groups-bytes_of : (mask : ℕ) → groups (bytes_of mask) ≡ ids_upto 64 mask
groups-bytes_of mask = groups-spelled 64 (ids_upto 64 mask) (omega arith) (ids_upto-are 64 mask)

-- ---- a number among the ids

abbrev is_upto : ℕ → ℕ → ℤ → Bool
is_upto n mask (pos id) = nat_lt 0 id && nat_le id n && has_id mask id
is_upto n mask (negsuc k) = false

int_eq-pos : (a b : ℕ) → int_eq (pos a) (pos b) ≡ (a == b)
int_eq-pos a b = grind (arith, nat_tests)

here_or_less : (n id : ℕ) (there : Bool) → (nat_lt 0 id && nat_le id n && there || (suc n == id) && there) ≡ (nat_lt 0 id && nat_le id (suc n) && there)
here_or_less n id true = grind (arith, nat_tests)
here_or_less n id false = grind (arith, nat_tests)

one_id : (n id : ℕ) (has : Bool) → list_any (λ x. int_eq (pos x) (pos id)) (if has then n ∷ [] else []) ≡ ((n == id) && has)
one_id n id true = rw (int_eq-pos n id) (grind (arith, nat_tests))
one_id n id false = grind (arith, nat_tests)

has_at : (n id mask : ℕ) → ((suc n == id) && has_id mask (suc n)) ≡ ((suc n == id) && has_id mask id)
has_at n id mask = grind (arith, nat_tests)

none_below : (ids : List ℕ) (k : ℕ) → list_any (λ x. int_eq (pos x) (negsuc k)) ids ≡ false
none_below [] k = refl
none_below (id ∷ ids) k = none_below ids k

among : (n mask : ℕ) (id : ℤ) → list_any (λ x. int_eq (pos x) id) (ids_upto n mask) ≡ is_upto n mask id
among zero mask (pos id) = rw (ids_upto-none mask) (grind (arith, nat_tests))
among zero mask (negsuc k) = rw (ids_upto-none mask) refl
among (suc n) mask (pos id) =
    rw (ids_upto-more n mask) (rw (list_any-append (λ x. int_eq (pos x) (pos id)) (ids_upto n mask) (id_upto (suc n) mask))
    (rw (among n mask (pos id)) (rw (one_id (suc n) id (has_id mask (suc n))) (rw (has_at n id mask) (here_or_less n id (has_id mask id))))))
among (suc n) mask (negsuc k) = none_below (ids_upto (suc n) mask) k

pub reads_what_it_has : ReadsWhatItHas
reads_what_it_has mask (pos id) = rw (groups-bytes_of mask) (among 64 mask (pos id))
reads_what_it_has mask (negsuc k) = rw (groups-bytes_of mask) (among 64 mask (negsuc k))

-- ---- the loop that spells them

spelled-append : (xs ys : List ℕ) → spelled (xs ++ ys) ≡ spelled xs ++ spelled ys
spelled-append [] ys = refl
spelled-append (x ∷ xs) ys = ap (λ s. to_le_bytes w32 x ++ s) (spelled-append xs ys) ∙ sym (append_assoc (to_le_bytes w32 x) (spelled xs) (spelled ys))

pub spelled-more : (n mask : ℕ) → spelled (ids_upto (n + 1) mask) ≡ spelled (ids_upto n mask) ++ spelled (id_upto (n + 1) mask)
spelled-more n mask = let next : n + 1 ≡ suc n = omega arith in rw next (rw (ids_upto-more n mask) (spelled-append (ids_upto n mask) (id_upto (suc n) mask)))

pub spelled-none : (mask : ℕ) → spelled (ids_upto 0 mask) ≡ []
spelled-none mask = rw (ids_upto-none mask) refl

pub ruleset bytes_steps = (spelled-more, spelled-none)
