use Rattle.std.proofs.Common.{◌≡◌}
use Rattle.ct_mask.specs.Masks.{spelled, ids_upto}
use Rattle.ct_mask.proofs.mask.Mask.bytes.Given as goal

abbrev pub invariant-loop-place : goal.invariant-loop-place
invariant-loop-place l = l.bytes.items ≡ spelled (ids_upto l.place l.self)
