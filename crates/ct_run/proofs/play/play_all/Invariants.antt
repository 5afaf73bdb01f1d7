use Rattle.std.proofs.Common.{◌≡◌, take}
use Rattle.ct_run.proofs.Goes.{HasPlayed}
use Rattle.ct_run.proofs.play.play_all.Given as goal

-- the phases so far were played
abbrev pub invariant-loop-phase : goal.invariant-loop-phase
invariant-loop-phase g l = record {
  played : HasPlayed (take l.phase-index l.script.phases) l.transcript l.core;
  disk : l.core.disk ≡ l.fn.core.disk;
}
