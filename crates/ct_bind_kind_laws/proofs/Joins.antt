-- That what FROM comes to has the sources and the ON of its join.
use Rattle.std.proofs.Common.{ℕ, false, true, List, [], ◌∷◌, map, Option, Some, None}
use Rattle.ct_types.specs.declared.bound.BoundSource.{BoundSource}
use Rattle.ct_types.specs.declared.bound.BoundSource.TheVariants as bound
use Rattle.ct_types.specs.declared.bound.BoundExpr.{BoundExpr}
use Rattle.ct_types.specs.declared.bound.Join.TheVariants.{Apply}
use Rattle.ct_types.specs.declared.catalogue.Catalogued.{Catalogued}
use Rattle.ct_types.specs.declared.catalogue.Variable.{Variable}
use Rattle.ct_types.specs.declared.expr.Expr.{Expr}
use Rattle.ct_types.specs.declared.expr.ObjectName.{ObjectName}
use Rattle.ct_types.specs.declared.refusal.Refusal.TheVariants.{NoObject}
use Rattle.ct_types.specs.declared.stmt.FromClause.{FromClause}
use Rattle.ct_types.specs.declared.stmt.JoinClause.{JoinClause}
use Rattle.ct_types.specs.declared.stmt.JoinClause.TheVariants as clause
use Rattle.ct_types.specs.declared.stmt.JoinKind.{JoinKind}
use Rattle.ct_types.specs.declared.stmt.JoinKind.TheVariants as kind
use Rattle.ct_types.specs.declared.stmt.Source.{Source}
use Rattle.ct_types.specs.declared.stmt.Source.TheVariants as source
use Rattle.ct_types.specs.declared.stmt.TableSource.{TableSource}
use Rattle.ct_types.specs.declared.stmt.VersionSource.{VersionSource}
use Rattle.ct_bind_kinds.specs.declared.kind.Kind.TheVariants.{Number}
use Rattle.ct_types.specs.Answers.{◌>>=◌}
use Rattle.ct_bind_names.specs.declared.catalogue.SystemTable.{SystemTable}
use Rattle.ct_bind_names.specs.Names.{table_name}
use Rattle.ct_bind_names.specs.Catalogue.{existing_table, tracked_table, system_table}
use Rattle.ct_bind_expr.specs.declared.place.Shape.{Shape}
use Rattle.ct_bind_expr.specs.declared.place.Place.{Place}
use Rattle.ct_bind_expr.specs.Places.{of_kind, closed, row_of}
use Rattle.ct_bind_expr.specs.Versions.{version_of}
use Rattle.ct_bind_expr.specs.Walk.{walk}
use Rattle.ct_bind.specs.Sources.{source_name, unique, sourced, system_sourced, plain_sourced, table_by, table_source, no_source, alone, pair, join_of, condition, changes_source, version_source, one_source, joined_on, applied, joined_with, joined}
use Rattle.ct_bind.specs.Queries.{from_of}
use Rattle.ct_bind_kind_laws.specs.Queries.{MayJoin, JoinFits}
use Rattle.ct_types.proofs.AnswersKept.{Kept, ok_kept, err_kept, then_kept, after_kept}

abbrev IsVersion : BoundSource → Type 0
IsVersion (bound.Version version) = Unit {0}
IsVersion source = ⊥

joins_on : (join : JoinKind) (left right : BoundSource) (on : BoundExpr) → MayJoin left → MayJoin right → JoinFits (join_of join) (Some left) (Some right) (Some on)
joins_on kind.Inner left right on first second = (first, second)
joins_on kind.Left left right on first second = (first, second)
joins_on kind.Right left right on first second = (first, second)

joins_apply : (left right : BoundSource) → MayJoin left → IsVersion right → JoinFits Apply (Some left) (Some right) None
joins_apply left (bound.Version version) first is = first
joins_apply left (bound.Table table) first is = absurd is
joins_apply left (bound.Changes table since) first is = absurd is
joins_apply left bound.CommitTable first is = absurd is
joins_apply left bound.TrackingTables first is = absurd is

module _ (tables : List Catalogued) (variables : List Variable) where
  table_joins : (before : List Shape) (from : TableSource) (system : Option SystemTable) → Kept (λ it. MayJoin it.source) (table_by tables false before from system)
  unfolding system_sourced plain_sourced
  table_joins before from (Some table) = err_kept (λ it. MayJoin it.source) (NoObject (table_name from.table))
  table_joins before from None =
      after_kept (λ it. MayJoin it.source) (existing_table tables from.table) _
      (λ table. after_kept (λ it. MayJoin it.source) (unique before (source_name from)) _ (λ _. ok_kept (λ it. MayJoin it.source) _ tt))

  changes_joins : (before : List Shape) (name : ObjectName) (since : Expr) (alias : List ℕ) → Kept (λ it. MayJoin it.source) (changes_source tables variables before name since alias)
  unfolding changes_source
  changes_joins before name since alias =
      after_kept (λ it. MayJoin it.source) (tracked_table tables name) _
      (λ table. after_kept (λ it. MayJoin it.source) (unique before alias) _
      (λ _. after_kept (λ it. MayJoin it.source) (walk tables variables since closed >>= of_kind Number) _ (λ value. ok_kept (λ it. MayJoin it.source) _ tt)))

  version_joins : (before : List Shape) (place : Place) (from : VersionSource) → Kept (λ it. MayJoin it.source × IsVersion it.source) (version_source tables variables before place from)
  unfolding version_source
  version_joins before place from =
      after_kept (λ it. MayJoin it.source × IsVersion it.source) (tracked_table tables from.version.table) _
      (λ table. after_kept (λ it. MayJoin it.source × IsVersion it.source) (unique before from.alias) _
      (λ _. after_kept (λ it. MayJoin it.source × IsVersion it.source) (version_of table.schema from.version.columns (map (walk tables variables) from.version.values) place) _
      (λ version. ok_kept (λ it. MayJoin it.source × IsVersion it.source) _ (tt, tt))))

  -- a source that has another beside it
  source_joins : (before : List Shape) (from : Source) → Kept (λ it. MayJoin it.source) (one_source tables variables false before from)
  unfolding one_source table_source
  source_joins before (source.Table from) = table_joins before from (system_table (table_name from.table))
  source_joins before (source.Changes table since alias) = changes_joins before table since alias
  source_joins before (source.Version from) = record { holds = λ it came. ((version_joins before closed from).holds it came).0 }

  with_fits : (first : BoundSource) (before : Shape) → MayJoin first → (join : JoinClause) → Kept (λ from. JoinFits from.join from.left from.right from.on) (joined_with tables variables (sourced first before) join)
  unfolding joined_on applied
  with_fits first before may (clause.On join other on) =
      then_kept (λ it. MayJoin it.source) (λ from. JoinFits from.join from.left from.right from.on) (one_source tables variables false (before ∷ []) other) _ (source_joins (before ∷ []) other)
      (λ second is. after_kept (λ from. JoinFits from.join from.left from.right from.on) (condition tables variables (row_of (before ∷ second.shape ∷ [])) on) _
      (λ on. ok_kept (λ from. JoinFits from.join from.left from.right from.on) (pair (sourced first before) second (join_of join) (Some on)) (joins_on join first second.source on may is)))
  with_fits first before may (clause.Apply other) =
      then_kept (λ it. MayJoin it.source × IsVersion it.source) (λ from. JoinFits from.join from.left from.right from.on)
      (version_source tables variables (before ∷ []) (row_of (before ∷ [])) other) _ (version_joins (before ∷ []) (row_of (before ∷ [])) other)
      (λ second is. ok_kept (λ from. JoinFits from.join from.left from.right from.on) (pair (sourced first before) second Apply None) (joins_apply first second.source may is.1))

  joined_fits : (first : Source) (join : Option JoinClause) → Kept (λ from. JoinFits from.join from.left from.right from.on) (joined tables variables (record { source = first; join = join }))
  unfolding joined
  joined_fits first None =
      after_kept (λ from. JoinFits from.join from.left from.right from.on) (one_source tables variables true [] first) _
      (λ it. ok_kept (λ from. JoinFits from.join from.left from.right from.on) (alone it) tt)
  joined_fits first (Some join) =
      then_kept (λ it. MayJoin it.source) (λ from. JoinFits from.join from.left from.right from.on) (one_source tables variables false [] first) _ (source_joins [] first)
      (λ it is. with_fits it.source it.shape is join)

  pub from_fits : (from : Option FromClause) → Kept (λ from. JoinFits from.join from.left from.right from.on) (from_of tables variables from)
  from_fits None = ok_kept (λ from. JoinFits from.join from.left from.right from.on) no_source tt
  from_fits (Some from) = joined_fits from.source from.join
