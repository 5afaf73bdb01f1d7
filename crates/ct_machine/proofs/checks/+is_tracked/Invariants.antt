use Rattle.std.proofs.Common.{length}
use Rattle.ct_machine.proofs.checks.+is_tracked.Given as goal

abbrev pub decreases-is_tracked : goal.decreases-is_tracked
decreases-is_tracked l = length l.tables.now
