use Rattle.std.proofs.Common.{◌≡◌, ◌≤◌, drop, min}
use Rattle.ct_bind_names.specs.Numbers.{number_from}
use Rattle.ct_bind_names.proofs.numbers.capped.Given as goal

abbrev pub invariant-loop-digit : goal.invariant-loop-digit
invariant-loop-digit l = (l.number ≤ 18446744073709551615) × (min (number_from 0 l.digits) 18446744073709551615 ≡ min (number_from l.number (drop l.digit-index l.digits)) 18446744073709551615)
