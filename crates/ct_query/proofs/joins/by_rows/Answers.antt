use Rattle.std.proofs.Common.{arith}
use Rattle.std.proofs.lemmas.Result.{err_from_is_err_and}
use Rattle.ct_query.proofs.Members.{all_of-at, all_of-fails}
use Rattle.ct_query.proofs.joins.by_rows.Goals as goal

pub returns-in_err-found : goal.returns-in_err-found
returns-in_err-found g c =
    let p = err_from_is_err_and c.from_residual.result c.from_residual.ensures.1 in
    rw (p.1, p.2) (λ ne. all_of-fails _ (λ one. one.now) c.args.rows.now c.loop-row.row-index c.row-item.result c.loop-row.all.items c.in_err-found.field-0.0 (omega arith) c.row-item.is c.loop-row.invariant (c.in_err-found.ensures ne))

pub loop-row-preserved : goal.loop-row-preserved
loop-row-preserved g c =
    all_of-at _ (λ one. one.now) c.args.rows.now c.loop-row.row-index c.row-item.result c.loop-row.all.items _ c.in_ok-found.found (omega arith) c.row-item.is c.loop-row.invariant c.in_ok-found.ensures c.in_ok-append.ensures
