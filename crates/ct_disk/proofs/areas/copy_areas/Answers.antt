use Rattle.ct_disk.proofs.Placed.{contents-copied}
use Rattle.std.proofs.Common.{◌∙◌}
use Rattle.ct_disk.proofs.areas.copy_areas.Goals as goal

pub loop-i-preserved : goal.loop-i-preserved
loop-i-preserved c = record {
  copied = contents-copied c.args.areas.now c.loop-i.made.items c.push.new.self.items c.loop-i.i c.index-areas-i.result c.in_ok-from_slice.field-0 c.loop-i-test.true c.index-areas-i.is
      (c.in_ok-from_slice.ensures.items ∙ c.as_slice.ensures.value) c.loop-i.invariant.copied c.in_ok-push.ensures.items;
}
