use Rattle.std.proofs.lemmas.Result.{err_from_is_err_and}
use Rattle.ct_write.proofs.Each.{each_more, each_stops}
use Rattle.ct_write.proofs.values.set_values.Goals as goal

pub returns-in_err-eval : goal.returns-in_err-eval
returns-in_err-eval g c =
    let p = err_from_is_err_and c.from_residual.result c.from_residual.ensures.1 in
    rw (p.1, p.2) (each_stops _ _ _ c.set-item.result _ _ c.loop-set-test.true c.set-item.is c.loop-set.invariant c.in_err-eval.ensures)

pub loop-set-preserved : goal.loop-set-preserved
loop-set-preserved g c =
    rw c.in_ok-push.ensures (each_more _ _ _ c.set-item.result _ _ c.loop-set-test.true c.set-item.is c.loop-set.invariant c.in_ok-eval.ensures)
