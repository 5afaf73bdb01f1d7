use Rattle.std.proofs.Common.{length}
use Rattle.ct_applies.proofs.holds.+all_hold.Given as goal

abbrev pub decreases-all_hold : goal.decreases-all_hold
decreases-all_hold l = length l.columns.now
