use Rattle.std.proofs.Common.{length, ◌-◌, ◌≡◌, true}
use Rattle.ct_replay.proofs.Replaying.{Replaying}
use Rattle.ct_redo.specs.Numbers.{AreNumbersWithin}
use Rattle.ct_redo.proofs.reading.replay_log.Given as goal

abbrev pub invariant-loop-from : goal.invariant-loop-from
invariant-loop-from l = Replaying l.fn.database l.bytes l.database l.records l.at × (l.within ≡ true → AreNumbersWithin l.database)

abbrev pub decreases-loop-from : goal.decreases-loop-from
decreases-loop-from l = length l.bytes - l.at
