use Rattle.std.proofs.Common.{arith}
use Rattle.std.proofs.lemmas.Result.{err_from_is_err_and}
use Rattle.ct_query.proofs.Members.{each-at, each-fails}
use Rattle.ct_query.proofs.query.values.Goals as goal

pub returns-in_err-eval : goal.returns-in_err-eval
returns-in_err-eval g c =
    let p = err_from_is_err_and c.from_residual.result c.from_residual.ensures.1 in
    rw (p.1, p.2) (λ ne. each-fails _ c.args.exprs.now c.loop-expr.expr-index c.expr-item.result c.loop-expr.made c.in_err-eval.field-0.0 (omega arith) c.expr-item.is c.loop-expr.invariant (c.in_err-eval.ensures ne))

pub loop-expr-preserved : goal.loop-expr-preserved
loop-expr-preserved g c =
    each-at _ c.args.exprs.now c.loop-expr.expr-index c.expr-item.result c.loop-expr.made _ c.in_ok-eval.field-0 (omega arith) c.expr-item.is c.loop-expr.invariant c.in_ok-eval.ensures c.in_ok-push.ensures
