-- The bits of a mask that gains an id, and of two masks in one.
use Rattle.std.proofs.Common.{◌≡◌, ◌≢◌, ℕ, ◌-◌, ◌*◌, ◌%◌, ◌^◌, ◌<◌, max, ◌==◌, ◌||◌, true, bit_or, w64, ap, arith, eq-eqb}
use Rattle.std.proofs.lemmas.Bool.Decides.{nat_tests}
use Rattle.std.proofs.lemmas.Nat.Bits.{bit_at_or, bit_at-lt, bit_at_set_same, bit_at_set_other}
use Rattle.ct_mask.specs.Masks.{IsId, has_id}

either_bit : (x y : ℕ) → x < 2 → y < 2 → (max x y == 1) ≡ (x == 1 || y == 1)
either_bit x y p q = grind (arith, nat_tests)

pub has_id-union : (a b id : ℕ) → has_id (bit_or a b) id ≡ (has_id a id || has_id b id)
has_id-union a b id = rw bit_at_or (either_bit _ _ (bit_at-lt a (id - 1)) (bit_at-lt b (id - 1)))

pub has_id-set : (n id : ℕ) → IsId id → has_id (bit_or n (1 * 2 ^ (id - 1) % 18446744073709551616)) id ≡ true
has_id-set n id h = eq-eqb _ 1 (bit_at_set_same w64 n (id - 1) (omega (arith, h.0, h.1)))

pub has_id-set_other : (n id other : ℕ) → IsId id → IsId other → other ≢ id → has_id (bit_or n (1 * 2 ^ (id - 1) % 18446744073709551616)) other ≡ has_id n other
has_id-set_other n id other h o ne = ap (λ bit. bit == 1) (bit_at_set_other w64 n (id - 1) (omega (arith, h.0, h.1)) (other - 1) (omega (arith, h.0, h.1, o.0, o.1, ne)))

pub ruleset union_steps = (has_id-union)

pub ruleset set_steps = (has_id-set, has_id-set_other)
