use Rattle.std.proofs.Common.{arith, ◌∙◌, length-set}
use Rattle.ct_disk.proofs.Placed.{contents-same, HaveRoom-grown, HaveRoom-next}
use Rattle.ct_disk.proofs.areas.reserve_all.Goals as goal

pub returns-in_err-reserve-clause-items : goal.returns-in_err-reserve-clause-items
returns-in_err-reserve-clause-items c = contents-same c.loop-i.areas.items c.loop-i.i c.index_mut-there.result.now c.reserve.new.self (omega arith) c.index_mut-there.ensures.value c.reserve.ensures.items ∙ c.loop-i.invariant.items

pub returns-in_err-reserve-clause-keeps : goal.returns-in_err-reserve-clause-keeps
returns-in_err-reserve-clause-keeps c = λ n h. HaveRoom-grown n c.loop-i.areas.items c.loop-i.i c.index_mut-there.result.now c.reserve.new.self (omega arith) c.index_mut-there.ensures.value c.reserve.ensures.items c.reserve.ensures.capacity (c.loop-i.invariant.keeps n h)

pub loop-i-preserved : goal.loop-i-preserved
loop-i-preserved c = record {
  items = contents-same c.loop-i.areas.items c.loop-i.i c.index_mut-there.result.now c.reserve.new.self (omega arith) c.index_mut-there.ensures.value c.reserve.ensures.items ∙ c.loop-i.invariant.items;
  keeps = λ n h. HaveRoom-grown n c.loop-i.areas.items c.loop-i.i c.index_mut-there.result.now c.reserve.new.self (omega arith) c.index_mut-there.ensures.value c.reserve.ensures.items c.reserve.ensures.capacity (c.loop-i.invariant.keeps n h);
  first = HaveRoom-next c.args.room c.loop-i.areas.items c.loop-i.i c.reserve.new.self (omega arith) c.loop-i.invariant.first (omega (arith, c.in_ok-reserve.ensures.ok, c.in_ok-reserve.ensures.len, c.reserve.new.self.ok.0));
  count = length-set _ _ _ ∙ c.loop-i.invariant.count;
}
