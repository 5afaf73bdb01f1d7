use Rattle.std.proofs.Common.{length, ◌-◌}
use Rattle.ct_log.proofs.Gates.{ReadsUpTo}
use Rattle.ct_log.proofs.reading.records.Given as goal

abbrev pub invariant-loop-from : goal.invariant-loop-from
invariant-loop-from l = ReadsUpTo l.bytes l.payloads l.at

abbrev pub decreases-loop-from : goal.decreases-loop-from
decreases-loop-from l = length l.bytes - l.at
