-- The turns that a loop has left, while it counts up, and the levels that a reader has left.
use Rattle.std.proofs.Common.{◌≡◌, ℕ, suc, ◌+◌, ◌-◌, ◌<◌, ◌≤◌, ap, ◌∙◌, arith}

-- before the last turn, one is left and those behind it
pub turn_left : {X : Type 0} {x : X} (f : ℕ → X) (turns done : ℕ) → done < turns → x ≡ f (turns - done) → x ≡ f (suc (turns - (done + 1)))
turn_left f turns done before e = e ∙ ap f (let left : turns - done ≡ suc (turns - (done + 1)) = omega arith in left)

-- behind the last turn, none is left
pub turns_spent : {X : Type 0} {x : X} (f : ℕ → X) (turns done : ℕ) → turns ≤ done → x ≡ f (turns - done) → x ≡ f 0
turns_spent f turns done behind e = e ∙ ap f (let left : turns - done ≡ 0 = omega arith in left)

-- some levels are one and those below it
pub level_left : {X : Type 0} (f : ℕ → X) (levels : ℕ) → 0 < levels → f levels ≡ f (suc (levels - 1))
level_left f levels some = ap f (let one : levels ≡ suc (levels - 1) = omega arith in one)
