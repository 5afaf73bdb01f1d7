use Rattle.std.proofs.Common.{Ok, ap, ◌∙◌}
use Rattle.std.proofs.lemmas.Result.{err_from_is_err_and}
use Rattle.ct_types.specs.declared.bound.BoundExpr.TheVariants as bound
use Rattle.ct_types.specs.declared.bound.BoundScalar.{BoundScalar}
use Rattle.ct_types.specs.Answers.{Answer, ◌>>=◌}
use Rattle.ct_bind_expr.specs.Places.{typed}
use Rattle.ct_bind_expr.proofs.Steps.{unshown, shown_there}
use Rattle.ct_bind_expr.proofs.walk.Binder.scalar.Goals as goal

pub returns-in_err-version : goal.returns-in_err-version
returns-in_err-version c =
    let p = err_from_is_err_and c.from_residual.result c.from_residual.ensures.1 in
    rw (p.1, p.2) (λ other. unshown c.args.table.now c.args.scalar.now c.args.version c.shown_column.result c.in_err-version.field-0.0 c.shown_column.ensures c.in_err-version.ensures other)

pub returns : goal.returns
returns c =
    shown_there c.args.table.now c.args.scalar.now c.args.version c.shown_column.result c.in_ok-version.version c.in_ok-version.column c.in_ok-version.kind c.shown_column.ensures c.in_ok-version.ensures
    ∙ ap (λ (it : Answer BoundScalar). it >>= (λ scalar. Ok (typed (bound.Scalar scalar) c.in_ok-version.kind))) c.in_ok-scalar.ensures
