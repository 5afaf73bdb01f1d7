use Rattle.std.proofs.Common.{◌∙◌, length, get_or, ap, arith}
use Rattle.ct_run.proofs.Goes.{has_run_whole, played_more}
use Rattle.ct_run.proofs.play.play_all.Goals as goal

pub loop-phase-preserved : goal.loop-phase-preserved
loop-phase-preserved g c = record {
  played = played_more c.args.script.now.phases c.loop-phase.phase-index c.phase-item.result c.loop-phase.transcript c.play_phase.new.transcript
      c.loop-phase.core c.play_phase.new.core (omega (arith, ap length c.as_slice-phase-items.ensures)) (c.phase-item.is ∙ ap (λ items. get_or items c.loop-phase.phase-index c.phase-item.result) c.as_slice-phase-items.ensures) c.loop-phase.invariant.played c.in_ok-play_phase.ensures.goes;
  disk = c.play_phase.ensures.disk ∙ c.loop-phase.invariant.disk;
}

pub returns-clause-run : goal.returns-clause-run
returns-clause-run g c =
    has_run_whole c.args.script.now c.loop-phase.phase-index c.loop-phase.transcript c.loop-phase.core (omega (arith, ap length c.as_slice-phase-items.ensures, c.loop-phase-test.false)) c.loop-phase.invariant.played
