use Rattle.std.proofs.Common.{length}
use Rattle.ct_write.proofs.fitting.+fit_values.Given as goal

abbrev pub decreases-fit_values : goal.decreases-fit_values
decreases-fit_values l = length l.columns.now
