-- The version of an entry that applies.
use Rattle.std.proofs.Common.{◌≡◌, ◌≤◌, ◌<◌, ◌+◌, ℕ, Bool, true, false, if◌then◌else◌, arith}

-- an entry that draws has the next version, and one that does not the same
pub version_rises : (draws : Bool) (old new : ℕ) → new ≡ (if draws then old + 1 else old) → old ≤ new
version_rises true old new e = omega (arith, e)
version_rises false old new e = omega (arith, e)

pub drawn_rises : (draws : Bool) (old new : ℕ) → new ≡ (if draws then old + 1 else old) → draws ≡ true → old < new
drawn_rises true old new e drawn = omega (arith, e)
drawn_rises false old new e drawn = cc
