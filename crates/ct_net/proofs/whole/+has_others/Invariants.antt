use Rattle.std.proofs.Common.{length}
use Rattle.ct_net.proofs.whole.+has_others.Given as goal

abbrev pub decreases-has_others : goal.decreases-has_others
decreases-has_others l = length l.columns.now
