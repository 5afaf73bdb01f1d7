use Rattle.std.proofs.Common.{◌≡◌, take}
use Rattle.ct_database.specs.Steps.{pointed}
use Rattle.ct_database.proofs.chunk.shares.Given as goal

abbrev pub invariant-loop-one : goal.invariant-loop-one
invariant-loop-one l = pointed l.made.items ≡ pointed (take l.one-index l.commits)
