use Rattle.std.proofs.Common.{refl}
use Rattle.ct_disk.specs.declared.call.Call.TheVariants.{Write}
use Rattle.ct_disk.proofs.Crashes.{within-more, replay-step, replay-end}
use Rattle.ct_disk.specs.Areas.{area_at}
use Rattle.ct_disk.specs.Crash.{torn_at}
use Rattle.std.proofs.Common.{length}
use Rattle.ct_disk.proofs.replay.replay_all.Goals as goal

pub loop-i-init : goal.loop-i-init
loop-i-init c = record { rest = refl; within = c.requires.within; place = c.requires.place; count = c.requires.count }

pub replay-requires-clause-within : goal.replay-requires-clause-within
replay-requires-clause-within c = (within-more (length c.args.written.now) c.args.calls.now c.loop-i.i (Write 0 0 0 0) c.loop-i-test.true c.loop-i.invariant.within).0

pub loop-i-preserved : goal.loop-i-preserved
loop-i-preserved c = record {
  rest = replay-step c.args.torn.now c.args.written.now c.args.calls.now c.loop-i.i (Write 0 0 0 0) (torn_at (area_at c.loop-i.areas.items) c.loop-i.next) (torn_at (area_at c.replay.new.areas.items) c.replay.new.next) _ c.loop-i-test.true c.loop-i.invariant.rest c.in_ok-replay.ensures.image;
  within = (within-more (length c.args.written.now) c.args.calls.now c.loop-i.i (Write 0 0 0 0) c.loop-i-test.true c.loop-i.invariant.within).1;
  place = c.replay.ensures.place;
  count = c.replay.ensures.count;
}

pub returns-clause-image : goal.returns-clause-image
returns-clause-image c = replay-end c.args.torn.now c.args.written.now c.args.calls.now c.loop-i.i (torn_at (area_at c.loop-i.areas.items) c.loop-i.next) _ c.loop-i-test.false c.loop-i.invariant.rest
