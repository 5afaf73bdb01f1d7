-- The set that is made of column ids is the number with their bits.
use Rattle.std.proofs.Common.{◌≡◌, ℕ, zero, suc, ◌+◌, ◌-◌, ◌*◌, ◌/◌, ◌%◌, ◌^◌, ◌<◌, ◌≤◌, max, Bool, true, false, ◌==◌, ◌||◌, List, [], ◌∷◌, length, refl, sym, ap, ◌∙◌, inl, inr, arith, eqb-true, eq-eqb}
use Rattle.std.specs.Int.{bit_at}
use Rattle.std.specs.List.{AllByRecursion, All, list_any}
use Rattle.std.proofs.lemmas.Bool.{cases_lt}
use Rattle.std.proofs.lemmas.Bool.Decides.{nat_tests}
use Rattle.std.proofs.lemmas.List.Elements.{recursion_from_All}
use Rattle.std.proofs.lemmas.Nat.Bits.{bit_at-zero, bit_at_or, bit_at-pow_same, bit_at-pow_other, bit_at-lt, bit_at_above, bit_at_cat_high, same_from_bits}
use Rattle.std.proofs.lemmas.Nat.{pow_pos}
use Rattle.std.proofs.Math.Nat.{mod-lt, zero-mul}
use Rattle.std.proofs.Math.Pow.{split as power_cut}
use Rattle.ct_mask.specs.Masks.{IsId, HasExactly}
use Rattle.ct_write.specs.Writes.{mask_of_ids}

abbrev bit : Bool → ℕ
bit true = 1
bit false = 0

-- the list has the id whose bit this is
abbrev has : ℕ → List ℕ → Bool
has i ids = list_any (λ x. x == i + 1) ids

one_bit : (id i : ℕ) → IsId id → bit_at (2 ^ (id - 1)) i ≡ bit (id == i + 1)
one_bit id i h =
    let step : (b : Bool) → b ≡ (id == i + 1) → bit_at (2 ^ (id - 1)) i ≡ bit b =
    elim [
      | true ↦ (λ e. let same : id ≡ i + 1 = eqb-true _ _ (sym e) in let place : id - 1 ≡ i = omega (arith, h.0) in rw place (bit_at-pow_same i))
      | false ↦
          (λ e. bit_at-pow_other (id - 1) i
          (λ other. let same : id ≡ i + 1 = omega (arith, h.0) in let clash : false ≡ true = e ∙ eq-eqb id (i + 1) same in cc))
    ] in
    step (id == i + 1) refl

max_bits : (a b : Bool) → max (bit a) (bit b) ≡ bit (a || b)
max_bits true true = refl
max_bits true false = refl
max_bits false true = refl
max_bits false false = refl

bits_of_ids : (ids : List ℕ) (i : ℕ) → AllByRecursion IsId ids → bit_at (mask_of_ids ids) i ≡ bit (has i ids)
bits_of_ids [] i all = bit_at-zero i
bits_of_ids (id ∷ ids) i all =
    bit_at_or (2 ^ (id - 1)) (mask_of_ids ids) i
    ∙ (ap (λ n. max n (bit_at (mask_of_ids ids) i)) (one_bit id i all.0)
    ∙ (ap (λ n. max (bit (id == i + 1)) n) (bits_of_ids ids i all.1) ∙ max_bits (id == i + 1) (has i ids)))

small : (x : ℕ) → x < 2 → (x == 1) ≡ false → x ≡ 0
small x lt e = grind (arith, nat_tests)

differ : (a b : ℕ) → a < b → (a == b) ≡ false
differ a b lt = grind (arith, nat_tests)

told : (m i : ℕ) (b : Bool) → (bit_at m i == 1) ≡ b → bit_at m i ≡ bit b
told m i true e = eqb-true _ _ e
told m i false e = small (bit_at m i) (bit_at-lt m i) e

none_above : (ids : List ℕ) (i : ℕ) → AllByRecursion IsId ids → 64 ≤ i → has i ids ≡ false
none_above [] i all le = refl
none_above (id ∷ ids) i all le = ap (λ b. b || has i ids) (differ id (i + 1) (omega (arith, all.0.1))) ∙ none_above ids i all.1 le

same_bit : (m : ℕ) (ids : List ℕ) (i : ℕ) → m < 2 ^ 64 → AllByRecursion IsId ids → HasExactly m ids → bit_at m i ≡ bit (has i ids)
same_bit m ids i lt all exactly =
    elim (cases_lt i 64) [
      | inl below ↦
          let back : i + 1 - 1 ≡ i = omega arith in
          told m i (has i ids) (ap (λ k. bit_at m k == 1) (sym back) ∙ exactly (i + 1) (omega arith, omega arith))
      | inr above ↦ bit_at_above m 64 i lt above ∙ sym (ap bit (none_above ids i all above))
    ]

pub mask_is : (m : ℕ) (ids : List ℕ) → m < 2 ^ 64 → All IsId ids → HasExactly m ids → m ≡ mask_of_ids ids
mask_is m ids lt all exactly =
    let each : AllByRecursion IsId ids = recursion_from_All IsId ids all in
    same_from_bits m (mask_of_ids ids) (λ i. same_bit m ids i lt each exactly ∙ sym (bits_of_ids ids i each))

-- ---- how great it is

is_id : (ids : List ℕ) (n : ℕ) → n ≤ 64 → AllByRecursion (λ id. (1 ≤ id) × (id ≤ n)) ids → AllByRecursion IsId ids
is_id [] n le all = tt
is_id (id ∷ ids) n le all = ((omega (arith, all.0.0), omega (arith, all.0.1)), is_id ids n le all.1)

-- no id above n has a bit
none_from : (ids : List ℕ) (n i : ℕ) → AllByRecursion (λ id. (1 ≤ id) × (id ≤ n)) ids → n ≤ i → has i ids ≡ false
none_from [] n i all le = refl
none_from (id ∷ ids) n i all le = ap (λ b. b || has i ids) (differ id (i + 1) (omega (arith, all.0.1))) ∙ none_from ids n i all.1 le

-- a number whose bits are all below n
upper : (m n : ℕ) → ((i : ℕ) → n ≤ i → bit_at m i ≡ 0) → (j : ℕ) → bit_at (m / 2 ^ n) j ≡ 0
upper m n none j =
    let split : m / 2 ^ n * 2 ^ n + m % 2 ^ n ≡ m = power_cut m n in
    let low : m % 2 ^ n < 2 ^ n = mod-lt m (pow_pos n) in
    let high : bit_at (m / 2 ^ n * 2 ^ n + m % 2 ^ n) (n + j) ≡ bit_at (m / 2 ^ n) (n + j - n) = bit_at_cat_high (m / 2 ^ n) n (m % 2 ^ n) (n + j) low (omega arith) in
    let back : n + j - n ≡ j = omega arith in
    sym (ap (λ k. bit_at (m / 2 ^ n) k) back) ∙ (sym high ∙ (ap (λ x. bit_at x (n + j)) split ∙ none (n + j) (omega arith)))

below_from_bits : (m n : ℕ) → ((i : ℕ) → n ≤ i → bit_at m i ≡ 0) → m < 2 ^ n
below_from_bits m n none =
    let zero_above : m / 2 ^ n ≡ 0 = same_from_bits (m / 2 ^ n) 0 (λ j. upper m n none j ∙ sym (bit_at-zero j)) in
    let split : m / 2 ^ n * 2 ^ n + m % 2 ^ n ≡ m = power_cut m n in
    let low : m % 2 ^ n < 2 ^ n = mod-lt m (pow_pos n) in
    let gone : m / 2 ^ n * 2 ^ n ≡ 0 = ap (λ x. x * 2 ^ n) zero_above ∙ zero-mul (2 ^ n) in
    omega arith

pub mask_below : (ids : List ℕ) (n : ℕ) → n ≤ 64 → AllByRecursion (λ id. (1 ≤ id) × (id ≤ n)) ids → mask_of_ids ids < 2 ^ n
mask_below ids n le all =
    below_from_bits (mask_of_ids ids) n (λ i from. bits_of_ids ids i (is_id ids n le all) ∙ ap bit (none_from ids n i all from))

not_zero : (m i : ℕ) → bit_at m i ≡ 1 → 0 < m
not_zero zero i e = let none : bit_at 0 i ≡ 0 = bit_at-zero i in let clash : 0 ≡ 1 = sym none ∙ e in absurd (omega arith)
not_zero (suc m) i e = omega arith

pub mask_positive : (ids : List ℕ) (n : ℕ) → n ≤ 64 → 0 < length ids → AllByRecursion (λ id. (1 ≤ id) × (id ≤ n)) ids → 0 < mask_of_ids ids
mask_positive [] n le some all = absurd (omega arith)
mask_positive (id ∷ ids) n le some all =
    let here : (id == id - 1 + 1) ≡ true = eq-eqb id (id - 1 + 1) (omega (arith, all.0.0)) in
    let set : bit_at (mask_of_ids (id ∷ ids)) (id - 1) ≡ 1 = bits_of_ids (id ∷ ids) (id - 1) (is_id (id ∷ ids) n le all) ∙ ap (λ b. bit (b || has (id - 1) ids)) here in
    not_zero (mask_of_ids (id ∷ ids)) (id - 1) set
