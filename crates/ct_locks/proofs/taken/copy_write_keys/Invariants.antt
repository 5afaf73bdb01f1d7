use Rattle.std.proofs.Common.{◌≡◌, take, map}
use Rattle.ct_locks.specs.Holdings.{taken_of}
use Rattle.ct_locks.proofs.taken.copy_write_keys.Given as goal

abbrev pub invariant-loop-write : goal.invariant-loop-write
invariant-loop-write l = l.made.items ≡ map taken_of (take l.write-index l.writes)
