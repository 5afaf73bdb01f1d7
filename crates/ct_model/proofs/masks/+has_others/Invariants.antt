use Rattle.std.proofs.Common.{length}
use Rattle.ct_model.proofs.masks.+has_others.Given as goal

abbrev pub decreases-has_others : goal.decreases-has_others
decreases-has_others l = length l.columns.now
