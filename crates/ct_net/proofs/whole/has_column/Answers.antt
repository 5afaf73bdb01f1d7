use Rattle.std.proofs.Common.{◌≡◌, ◌-◌, ◌≤◌, arith}
use Rattle.std.specs.Int.{bit_at}
use Rattle.std.proofs.lemmas.Nat.Bits.{bit_at_above}
use Rattle.std.proofs.lemmas.Bool.Decides.{nat_tests}
use Rattle.ct_net.proofs.whole.has_column.Goals as goal

pub returns-else-place-lt64 : goal.returns-else-place-lt64
returns-else-place-lt64 c =
    let high : 64 ≤ c.args.id - 1 = omega arith in
    let none : bit_at c.args.mask (c.args.id - 1) ≡ 0 = bit_at_above c.args.mask 64 (c.args.id - 1) (omega arith) high in
    rw none (grind (arith, nat_tests))
