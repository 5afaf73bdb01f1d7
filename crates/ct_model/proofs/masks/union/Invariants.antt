use Rattle.std.proofs.Common.{◌≡◌, take}
use Rattle.ct_model.specs.Net.{union_of}
use Rattle.ct_model.proofs.masks.union.Given as goal

abbrev pub invariant-loop-dated : goal.invariant-loop-dated
invariant-loop-dated l = l.mask ≡ union_of (take l.dated-index l.changes)
