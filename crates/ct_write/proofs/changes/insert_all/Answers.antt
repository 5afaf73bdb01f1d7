use Rattle.std.proofs.lemmas.Result.{err_from_is_err_and}
use Rattle.ct_write.proofs.Each.{each_more, each_stops}
use Rattle.ct_write.proofs.changes.insert_all.Goals as goal

pub returns-in_err-made : goal.returns-in_err-made
returns-in_err-made g c =
    let p = err_from_is_err_and c.from_residual.result c.from_residual.ensures.1 in
    rw (p.1, p.2) (each_stops _ _ _ c.tuple-item.result _ _ c.loop-tuple-test.true c.tuple-item.is c.loop-tuple.invariant (rw c.as_slice.ensures at c.in_err-made.ensures))

pub loop-tuple-preserved : goal.loop-tuple-preserved
loop-tuple-preserved g c =
    rw c.in_ok-push.ensures (each_more _ _ _ c.tuple-item.result _ _ c.loop-tuple-test.true c.tuple-item.is c.loop-tuple.invariant (rw c.as_slice.ensures at c.in_ok-made.ensures))
