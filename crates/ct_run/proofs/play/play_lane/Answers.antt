use Rattle.std.proofs.Common.{◌∙◌, length, get_or, ap, refl, arith}
use Rattle.ct_types.specs.declared.command.Journaled.{Journaled}
use Rattle.ct_run.proofs.Commands.{means_meant}
use Rattle.ct_run.proofs.Goes.{goes_statement}
use Rattle.ct_run.proofs.play.play_lane.Goals as goal

pub loop-text-preserved : goal.loop-text-preserved
loop-text-preserved g c =
    let lane = c.args.lane.now in
    let one : Journaled = record { session = lane.session; number = c.loop-text.number; what = c.in_ok-what.what; reply = c.event-reply.result } in
    record {
      goes = goes_statement lane c.loop-text.text-index c.text-item.result c.args.transcript.now c.loop-text.transcript c.block.new.self one
          c.args.core.now c.loop-text.core c.event-reply.new.self (omega (arith, ap length c.as_slice-text-items.ensures)) (c.text-item.is ∙ ap (λ items. get_or items c.loop-text.text-index c.text-item.result) c.as_slice-text-items.ensures) c.loop-text.invariant.goes c.in_ok-block.ensures.ok
          (record { session = refl; number = c.loop-text.invariant.number; means = c.in_ok-what.ensures.means }) (omega arith)
          (means_meant c.text-item.result one.what c.in_ok-what.ensures.utf8 c.in_ok-what.ensures.means) c.event-reply.ensures.follows c.event-reply.ensures.stands;
      number = omega arith;
      disk = c.event-reply.ensures.disk ∙ c.loop-text.invariant.disk;
    }
