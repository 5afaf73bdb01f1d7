use Rattle.std.proofs.Common.{◌<◌, length, arith}
use Rattle.ct_checkpoint.proofs.Writes.{appends_groups}
use Rattle.ct_checkpoint.proofs.writing.put_groups.Goals as goal

pub loop-rest-preserved : goal.loop-rest-preserved
loop-rest-preserved c = λ new more.
    let rest = c.loop-rest.rest.now in
    let some : 0 < length rest = omega (arith, c.loop-rest-test.true) in
    c.loop-rest.invariant new
    (appends_groups c.args.table rest c.split_at.result.0.now c.split_at.result.1.now c.min.result c.loop-rest.out.items c.put_group.new.out.items new some c.min.ensures c.split_at.ensures.front c.split_at.ensures.back
    c.in_ok-put_group.ensures more)
