use Rattle.std.proofs.Common.{◌≡◌, take}
use Rattle.std.specs.List.{flat_map}
use Rattle.ct_print.specs.Growing.{with_phase}
use Rattle.ct_run.specs.Schedule.{numbered_in_lane}
use Rattle.ct_run.specs.Steps.{Goes}
use Rattle.ct_run.proofs.play.play_phase.Given as goal

-- the lanes so far were played
abbrev pub invariant-loop-lane : goal.invariant-loop-lane
invariant-loop-lane g l = record {
  goes : Goes (flat_map numbered_in_lane (take l.lane-index l.phase.sessions)) (with_phase l.fn.transcript) l.transcript l.fn.core l.core;
  disk : l.core.disk ≡ l.fn.core.disk;
}
