use Rattle.std.proofs.Common.{◌-◌, length}
use Rattle.ct_checkpoint.specs.Reading.{StepsTo}
use Rattle.ct_checkpoint.proofs.reading.read_checkpoint.Given as goal

abbrev pub invariant-loop-step : goal.invariant-loop-step
invariant-loop-step l = StepsTo l.bytes l.at l.step

abbrev pub decreases-loop-step : goal.decreases-loop-step
decreases-loop-step l = length l.bytes - l.at
