use Rattle.std.proofs.Common.{length, ◌-◌}
use Rattle.ct_replay.proofs.Replaying.{Replaying}
use Rattle.ct_replay.proofs.reading.replay_log.Given as goal

abbrev pub invariant-loop-from : goal.invariant-loop-from
invariant-loop-from l = Replaying l.fn.db l.bytes l.db l.records l.at

abbrev pub decreases-loop-from : goal.decreases-loop-from
decreases-loop-from l = length l.bytes - l.at
