use Rattle.std.proofs.Common.{length}
use Rattle.ct_model.proofs.rows.+cmp_columns.Given as goal

abbrev pub decreases-cmp_columns : goal.decreases-cmp_columns
decreases-cmp_columns l = length l.ids.now
