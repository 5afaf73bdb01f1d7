use Rattle.std.proofs.Common.{take}
use Rattle.ct_mask.specs.Masks.{HasExactly}
use Rattle.ct_mask.proofs.mask.Mask.of.Given as goal

abbrev pub invariant-loop-id : goal.invariant-loop-id
invariant-loop-id l = HasExactly l.mask (take l.id-index l.ids)
