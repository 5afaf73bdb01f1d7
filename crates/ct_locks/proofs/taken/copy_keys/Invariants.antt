use Rattle.std.proofs.Common.{◌≡◌, take, map}
use Rattle.ct_locks.specs.Holdings.{taken_on}
use Rattle.ct_locks.proofs.taken.copy_keys.Given as goal

abbrev pub invariant-loop-key : goal.invariant-loop-key
invariant-loop-key l = l.made.items ≡ map (taken_on l.table) (take l.key-index l.keys)
