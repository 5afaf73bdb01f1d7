use Rattle.std.proofs.Common.{◌≡◌, length}
use Rattle.ct_mask.specs.Masks.{has_group}
use Rattle.ct_mask.proofs.reading.has_group.Given as goal

abbrev pub invariant-loop-rest : goal.invariant-loop-rest
invariant-loop-rest l = has_group l.rest l.id ≡ has_group l.initial.rest l.id

abbrev pub decreases-loop-rest : goal.decreases-loop-rest
decreases-loop-rest l = length l.rest
