use Rattle.std.proofs.Common.{◌≡◌, take}
use Rattle.ct_core.proofs.decide.copied.Given as goal

abbrev pub invariant-loop-write : goal.invariant-loop-write
invariant-loop-write l = l.made ≡ take l.write-index l.writes
