use Rattle.std.proofs.Common.{length}
use Rattle.ct_write.proofs.values.+assign.Given as goal

abbrev pub decreases-assign : goal.decreases-assign
decreases-assign l = length l.ids.now
