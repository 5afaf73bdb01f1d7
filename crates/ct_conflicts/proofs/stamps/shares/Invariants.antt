use Rattle.std.proofs.Common.{◌≡◌, take}
use Rattle.ct_conflicts.proofs.stamps.shares.Given as goal

abbrev pub invariant-loop-stamps : goal.invariant-loop-stamps
invariant-loop-stamps l = l.made.items ≡ take l.stamps-index l.later
