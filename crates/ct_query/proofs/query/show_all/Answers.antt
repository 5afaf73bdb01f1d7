use Rattle.std.proofs.Common.{arith}
use Rattle.std.proofs.lemmas.Result.{err_from_is_err_and}
use Rattle.ct_query.proofs.Members.{each_of-at, each_of-fails}
use Rattle.ct_query.proofs.query.show_all.Goals as goal

pub returns-in_err-show : goal.returns-in_err-show
returns-in_err-show g c =
    let p = err_from_is_err_and c.from_residual.result c.from_residual.ensures.1 in
    rw (p.1, p.2) (λ ne. each_of-fails _ (λ one. one.now) c.args.rows.now c.loop-row.row-index c.row-item.result c.loop-row.made c.in_err-show.field-0.0 (omega arith) c.row-item.is c.loop-row.invariant (c.in_err-show.ensures ne))

pub loop-row-preserved : goal.loop-row-preserved
loop-row-preserved g c =
    each_of-at _ (λ one. one.now) c.args.rows.now c.loop-row.row-index c.row-item.result c.loop-row.made _ c.in_ok-show.field-0 (omega arith) c.row-item.is c.loop-row.invariant c.in_ok-show.ensures c.in_ok-push.ensures
