use Rattle.std.proofs.Common.{Ok}
use Rattle.std.proofs.lemmas.Result.{err_from_is_err_and}
use Rattle.ct_types.specs.declared.bound.BoundExpr.TheVariants as bound
use Rattle.ct_bind_kinds.specs.declared.kind.Kind.TheVariants.{Number, Text}
use Rattle.ct_bind_expr.specs.Places.{typed, of_kind}
use Rattle.ct_bind_expr.specs.Walk.{column_property}
use Rattle.ct_bind_expr.proofs.Gives.{three_stop}
use Rattle.ct_bind_expr.proofs.operators.property_of_column.Goals as goal

pub returns-in_err-table : goal.returns-in_err-table
unfolding column_property
returns-in_err-table c =
    let p = err_from_is_err_and c.from_residual.result c.from_residual.ensures.1 in
    rw (p.1, p.2) (λ other. three_stop (of_kind Number c.args.table) c.boxed_as-table.result (of_kind Text c.args.column) c.boxed_as.result (of_kind Text c.args.property) c.boxed_as-2.result
    (λ table column property. Ok (typed (bound.ColumnProperty table column property) Number)) c.joined-names.result c.in_err-table.field-0.0
    c.boxed_as-table.ensures c.boxed_as.ensures c.boxed_as-2.ensures c.joined-names.ensures c.in_err-table.ensures other)
