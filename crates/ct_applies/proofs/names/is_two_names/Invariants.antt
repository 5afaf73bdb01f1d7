use Rattle.std.proofs.Common.{ℕ, ◌<◌}
use Rattle.ct_applies.specs.Cuts.{IsCut}
use Rattle.ct_applies.proofs.names.is_two_names.Given as goal

abbrev pub invariant-loop-at : goal.invariant-loop-at
invariant-loop-at l = (k : ℕ) → k < l.at → IsCut l.name k → ⊥
