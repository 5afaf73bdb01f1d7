use Rattle.std.proofs.Common.{arith}
use Rattle.ct_locks.proofs.Sets.{all_has, more_has, none_has}
use Rattle.ct_locks.proofs.key_sets.with_keys.Goals as goal

pub loop-taken-init : goal.loop-taken-init
loop-taken-init c = none_has c.args.sets.now c.in_ok-made.made.items c.in_ok-made.ensures

pub loop-taken-preserved : goal.loop-taken-preserved
loop-taken-preserved c =
    more_has c.args.sets.now c.loop-taken.made.items c.put_key.new.sets.items c.args.added.now c.loop-taken.taken-index c.taken-item.result (omega arith) c.taken-item.is c.in_ok-put_key.ensures c.loop-taken.invariant

pub returns : goal.returns
returns c = all_has c.args.sets.now c.loop-taken.made.items c.args.added.now c.loop-taken.taken-index (omega arith) c.loop-taken.invariant
