use Rattle.std.proofs.Common.{arith}
use Rattle.std.proofs.lemmas.Result.{err_from_is_err_and}
use Rattle.ct_query.proofs.Members.{each_of-at, each_of-fails}
use Rattle.ct_core.proofs.versions.versions_on.Goals as goal

pub returns-in_err-version_on : goal.returns-in_err-version_on
returns-in_err-version_on c =
    let p = err_from_is_err_and c.from_residual.result c.from_residual.ensures.1 in
    rw (p.1, p.2) (λ ne. each_of-fails _ (λ one. one.now) c.args.rows.now c.loop-row.row-index c.row-item.result c.loop-row.made c.in_err-version_on.field-0.0 (omega arith) c.row-item.is c.loop-row.invariant (c.in_err-version_on.ensures ne))

pub loop-row-preserved : goal.loop-row-preserved
loop-row-preserved c =
    each_of-at _ (λ one. one.now) c.args.rows.now c.loop-row.row-index c.row-item.result c.loop-row.made _ c.in_ok-version_on.field-0 (omega arith) c.row-item.is c.loop-row.invariant c.in_ok-version_on.ensures c.in_ok-push.ensures
