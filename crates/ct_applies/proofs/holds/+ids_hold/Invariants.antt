use Rattle.std.proofs.Common.{length}
use Rattle.ct_applies.proofs.holds.+ids_hold.Given as goal

abbrev pub decreases-ids_hold : goal.decreases-ids_hold
decreases-ids_hold l = length l.ids.now
