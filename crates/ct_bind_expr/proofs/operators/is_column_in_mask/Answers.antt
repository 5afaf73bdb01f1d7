use Rattle.std.proofs.Common.{Ok, sym, ap, ◌∙◌}
use Rattle.std.proofs.lemmas.Result.{err_from_is_err_and}
use Rattle.ct_types.specs.declared.bound.BoundExpr.TheVariants as bound
use Rattle.ct_types.specs.Answers.{Answer, ◌>>=◌}
use Rattle.ct_bind_kinds.specs.declared.kind.Kind.TheVariants.{Number, Bytes}
use Rattle.ct_bind_expr.specs.declared.place.Typed.{Typed}
use Rattle.ct_bind_expr.specs.Places.{typed, of_kind}
use Rattle.ct_bind_expr.specs.Walk.{is_column_in_mask}
use Rattle.ct_bind_expr.proofs.Gives.{both_stop}
use Rattle.ct_bind_expr.proofs.operators.is_column_in_mask.Goals as goal

pub returns-in_err-column-2 : goal.returns-in_err-column-2
unfolding is_column_in_mask
returns-in_err-column-2 c =
    let p = err_from_is_err_and c.from_residual-in_err-column-2.result c.from_residual-in_err-column-2.ensures.1 in
    rw (p.1, p.2) (λ other. ap (λ (it : Answer (Typed × Typed)). it >>= (λ it. is_column_in_mask it.0 it.1)) (sym c.in_ok-column.ensures)
    ∙ both_stop (of_kind Number c.in_ok-column.column) c.boxed_as.result (of_kind Bytes c.in_ok-column.mask) c.boxed_as-2.result (λ column mask. Ok (typed (bound.IsColumnInMask column mask) Number)) c.in_err-column-2.field-0.0
    c.boxed_as.ensures c.boxed_as-2.ensures c.in_err-column-2.ensures other)
