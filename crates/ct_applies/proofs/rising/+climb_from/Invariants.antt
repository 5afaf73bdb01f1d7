use Rattle.std.proofs.Common.{length}
use Rattle.ct_applies.proofs.rising.+climb_from.Given as goal

abbrev pub decreases-climb_from : goal.decreases-climb_from
decreases-climb_from l = length l.rows.now
