-- A number that is counted no further than a cap.
use Rattle.std.proofs.Common.{◌≡◌, ℕ, ◌+◌, ◌-◌, ◌*◌, min, List, [], ◌∷◌, arith}
use Rattle.ct_bind_names.specs.Numbers.{number_from}

-- what goes on from two numbers that are one up to the cap is one up to the cap
pub number_from-capped : (cap : ℕ) (digits : List ℕ) (m n : ℕ) → min m cap ≡ min n cap → min (number_from m digits) cap ≡ min (number_from n digits) cap
number_from-capped cap [] m n e = e
number_from-capped cap (digit ∷ digits) m n e = number_from-capped cap digits (m * 10 + (digit - 48)) (n * 10 + (digit - 48)) (omega arith)
