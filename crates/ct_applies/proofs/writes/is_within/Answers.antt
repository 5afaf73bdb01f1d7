use Rattle.std.proofs.Common.{◌≡◌, ◌≤◌, ◌<◌, ◌/◌, ◌^◌, ℕ, arith}
use Rattle.std.proofs.Math.Nat.{pow-le-pow_right, div-lt_iff_lt-mul, div-eq_of_lt}
use Rattle.std.proofs.lemmas.Nat.{pow_pos}
use Rattle.std.proofs.lemmas.Bool.{le-leb, eq-eqb, eqb-true}
use Rattle.ct_applies.proofs.writes.is_within.Goals as goal

within_wide : (mask columns : ℕ) → mask < 2 ^ 64 → 64 ≤ columns → mask < 2 ^ columns
within_wide mask columns fits wide = let more : 2 ^ 64 ≤ 2 ^ columns = pow-le-pow_right (omega arith) wide in omega (arith, more)

no_rest : (mask columns : ℕ) → mask / 2 ^ columns ≡ 0 → mask < 2 ^ columns
no_rest mask columns none = omega (arith, (div-lt_iff_lt-mul {k = 2 ^ columns} {x = mask} {y = 1} (pow_pos columns)).0 (omega arith))

pub returns-then-columns-ge64 : goal.returns-then-columns-ge64
returns-then-columns-ge64 c = (λ e. within_wide c.args.mask c.args.columns (omega arith) c.if-columns-ge64.true, λ lt. le-leb _ _ c.if-columns-ge64.true)

pub returns-else-columns-ge64 : goal.returns-else-columns-ge64
returns-else-columns-ge64 c = (λ e. no_rest c.args.mask c.args.columns (eqb-true _ _ e), λ lt. eq-eqb _ _ (div-eq_of_lt lt))
