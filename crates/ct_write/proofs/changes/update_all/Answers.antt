use Rattle.std.proofs.lemmas.Result.{err_from_is_err_and}
use Rattle.ct_write.proofs.Each.{each_of_more, each_of_stops}
use Rattle.ct_write.proofs.changes.update_all.Goals as goal

pub returns-in_err-update_one : goal.returns-in_err-update_one
returns-in_err-update_one g c =
    let p = err_from_is_err_and c.from_residual.result c.from_residual.ensures.1 in
    rw (p.1, p.2) (each_of_stops _ (λ one. one.now) _ _ c.before-item.result _ _ c.loop-before-test.true c.before-item.is c.loop-before.invariant c.in_err-update_one.ensures)

pub loop-before-preserved : goal.loop-before-preserved
loop-before-preserved g c =
    rw c.in_ok-push.ensures (each_of_more _ (λ one. one.now) _ _ c.before-item.result _ _ c.loop-before-test.true c.before-item.is c.loop-before.invariant c.in_ok-update_one.ensures)
