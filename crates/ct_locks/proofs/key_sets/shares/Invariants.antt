use Rattle.std.proofs.Common.{◌≡◌, take}
use Rattle.ct_locks.proofs.key_sets.shares.Given as goal

abbrev pub invariant-loop-set : goal.invariant-loop-set
invariant-loop-set l = l.made.items ≡ take l.set-index l.sets
