use Rattle.std.proofs.Common.{◌≤◌, length, drop}
use Rattle.ct_disk.specs.Mem.{NoneSynced}
use Rattle.ct_disk.proofs.replay.synced_calls.Given as goal

abbrev pub invariant-loop-count : goal.invariant-loop-count
invariant-loop-count l = record {
  within : l.count ≤ length l.calls;
  since : NoneSynced (drop l.count l.calls);
}

abbrev pub decreases-loop-count : goal.decreases-loop-count
decreases-loop-count l = l.count
