use Rattle.std.proofs.Common.{◌≡◌, ◌+◌, take}
use Rattle.ct_run.specs.Schedule.{numbered_from}
use Rattle.ct_run.specs.Steps.{Goes}
use Rattle.ct_run.proofs.play.play_lane.Given as goal

-- the statements so far were played
abbrev pub invariant-loop-text : goal.invariant-loop-text
invariant-loop-text g l = record {
  goes : Goes (numbered_from l.lane.session l.lane.first (take l.text-index l.lane.statements)) l.fn.transcript l.transcript l.fn.core l.core;
  number : l.number ≡ l.lane.first + l.text-index;
  disk : l.core.disk ≡ l.fn.core.disk;
}
