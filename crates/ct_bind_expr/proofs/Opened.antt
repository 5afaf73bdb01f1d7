-- What a term, a version and a scalar form come to, by what their parts come to.
use Rattle.std.proofs.Common.{◌≡◌, List, map}
use Rattle.ct_types.specs.declared.catalogue.Catalogued.{Catalogued}
use Rattle.ct_types.specs.declared.catalogue.Variable.{Variable}
use Rattle.ct_types.specs.declared.expr.Expr.TheFolds.{fold_out-RowVersion, fold_out-Scalar, fold_out-Term}
use Rattle.ct_types.specs.declared.expr.RowVersion.{RowVersion}
use Rattle.ct_types.specs.declared.expr.Scalar.{Scalar}
use Rattle.ct_types.specs.declared.expr.Term.{Term}
use Rattle.ct_bind_expr.specs.Versions.{Walk}
use Rattle.ct_bind_expr.specs.Walk.{VersionWalk, TermWalk, walk, version_walk, scalar_walk, term_walk, expr_rule, version_rule, scalar_rule, term_rule}

module _ (tables : List Catalogued) (variables : List Variable) where
  pub opened_term : (t : Term) → term_walk tables variables t ≡ (t.subtracts, walk tables variables t.value)
  unfolding walk version_walk scalar_walk term_walk
  opened_term t = fold_out-Term Walk VersionWalk Walk TermWalk (expr_rule tables variables) (version_rule tables variables) (scalar_rule tables variables) (term_rule tables variables) t

  pub opened_version : (v : RowVersion) → version_walk tables variables v ≡ version_rule tables variables {B = VersionWalk} {C = Walk} {D = TermWalk} (record { table = v.table; columns = v.columns; values = map (walk tables variables) v.values })
  unfolding walk version_walk scalar_walk term_walk
  opened_version v = fold_out-RowVersion Walk VersionWalk Walk TermWalk (expr_rule tables variables) (version_rule tables variables) (scalar_rule tables variables) (term_rule tables variables) v

  pub opened_scalar : (s : Scalar) → scalar_walk tables variables s ≡ scalar_rule tables variables {A = Walk} {C = Walk} {D = TermWalk} (record { source = s.source; column = s.column; version = version_walk tables variables s.version; alias = s.alias })
  unfolding walk version_walk scalar_walk term_walk
  opened_scalar s = fold_out-Scalar Walk VersionWalk Walk TermWalk (expr_rule tables variables) (version_rule tables variables) (scalar_rule tables variables) (term_rule tables variables) s
