use Rattle.std.proofs.Common.{◌∙◌, length, get_or, ap, arith}
use Rattle.ct_run.proofs.Goes.{goes_lane}
use Rattle.ct_run.proofs.play.play_phase.Goals as goal

pub loop-lane-preserved : goal.loop-lane-preserved
loop-lane-preserved g c = record {
  goes = goes_lane c.args.phase.now.sessions c.loop-lane.lane-index c.lane-item.result _ c.loop-lane.transcript c.play_lane.new.transcript
      c.args.core.now c.loop-lane.core c.play_lane.new.core (omega (arith, ap length c.as_slice-lane-items.ensures)) (c.lane-item.is ∙ ap (λ items. get_or items c.loop-lane.lane-index c.lane-item.result) c.as_slice-lane-items.ensures) c.loop-lane.invariant.goes c.in_ok-play_lane.ensures.goes;
  disk = c.play_lane.ensures.disk ∙ c.loop-lane.invariant.disk;
}
