-- What FROM comes to is at most as deep as the statement.
use Rattle.std.proofs.Common.{ℕ, Bool, true, false, List, [], ◌∷◌, map, Option, Some, None}
use Rattle.ct_types.specs.declared.bound.BoundExpr.{BoundExpr}
use Rattle.ct_types.specs.declared.bound.BoundSource.{BoundSource}
use Rattle.ct_types.specs.declared.bound.BoundSource.TheVariants as bound
use Rattle.ct_types.specs.declared.bound.Join.TheVariants.{Apply}
use Rattle.ct_types.specs.declared.catalogue.Catalogued.{Catalogued}
use Rattle.ct_types.specs.declared.catalogue.Variable.{Variable}
use Rattle.ct_types.specs.declared.expr.Expr.{Expr}
use Rattle.ct_types.specs.declared.expr.ObjectName.{ObjectName}
use Rattle.ct_types.specs.declared.refusal.Refusal.TheVariants.{NoObject}
use Rattle.ct_types.specs.declared.stmt.FromClause.{FromClause}
use Rattle.ct_types.specs.declared.stmt.JoinClause.{JoinClause}
use Rattle.ct_types.specs.declared.stmt.JoinClause.TheVariants as clause
use Rattle.ct_types.specs.declared.stmt.JoinKind.{JoinKind}
use Rattle.ct_types.specs.declared.stmt.Source.{Source}
use Rattle.ct_types.specs.declared.stmt.Source.TheVariants as source
use Rattle.ct_types.specs.declared.stmt.TableSource.{TableSource}
use Rattle.ct_types.specs.declared.stmt.VersionSource.{VersionSource}
use Rattle.ct_bind_kinds.specs.declared.kind.Kind.TheVariants.{Number}
use Rattle.ct_types.specs.Answers.{◌>>=◌}
use Rattle.ct_bind_names.specs.declared.catalogue.SystemTable.{SystemTable}
use Rattle.ct_bind_names.specs.declared.catalogue.SystemTable.TheVariants.{Commits, Tracking}
use Rattle.ct_bind_names.specs.Names.{table_name}
use Rattle.ct_bind_names.specs.Catalogue.{existing_table, tracked_table, system_table}
use Rattle.ct_bind_expr.specs.declared.place.Shape.{Shape}
use Rattle.ct_bind_expr.specs.declared.place.Place.{Place}
use Rattle.ct_bind_expr.specs.Places.{of_kind, closed, row_of}
use Rattle.ct_bind_expr.specs.Versions.{version_of}
use Rattle.ct_bind_expr.specs.Walk.{walk}
use Rattle.ct_bind.specs.Sources.{shape, shown_columns, changes_columns, version_columns, system_columns, system_source, source_name, unique, sourced, system_sourced, plain_sourced, table_by, table_source, no_source, alone, pair, join_of, condition, changes_source, version_source, one_source, joined_on, applied, joined_with, joined}
use Rattle.ct_bind.specs.Queries.{from_of}
use Rattle.ct_types.proofs.AnswersKept.{Kept, ok_kept, then_kept, after_kept, demand_kept}
use Rattle.ct_types.proofs.Lists.{all_front, all_back}
use Rattle.ct_bind_depth_laws.specs.Statements.{if_given, source_expressions, join_expressions, from_expressions, bound_source_expressions}
use Rattle.ct_bind_depth_laws.proofs.Operators.{NoDeeper}
use Rattle.ct_bind_depth_laws.proofs.Chains.{NoneDeeper}
use Rattle.ct_bind_depth_laws.proofs.Versions.{version_kept}
use Rattle.ct_bind_depth_laws.proofs.Operands.{Within, AllWithin, GivenNoDeeper, all_walked, operand_kept, condition_kept}

module _ (tables : List Catalogued) (variables : List Variable) (n : ℕ) where
  -- ---- sources

  abbrev SourceNoDeeper : BoundSource → Type 0
  SourceNoDeeper from = NoneDeeper n (bound_source_expressions from)

  system_flat : (table : SystemTable) → SourceNoDeeper (system_source table)
  system_flat Commits = tt
  system_flat Tracking = tt

  plain_kept : (before : List Shape) (from : TableSource) → Kept (λ it. SourceNoDeeper it.source) (plain_sourced tables before from)
  unfolding plain_sourced
  plain_kept before from =
      after_kept (λ it. SourceNoDeeper it.source) (existing_table tables from.table) _
      (λ table. after_kept (λ it. SourceNoDeeper it.source) (unique before (source_name from)) _
      (λ _. ok_kept (λ it. SourceNoDeeper it.source) (sourced (bound.Table table.schema.id) (shape (source_name from) (shown_columns table.schema.columns))) tt))

  table_kept : (is_alone : Bool) (before : List Shape) (from : TableSource) (system : Option SystemTable) → Kept (λ it. SourceNoDeeper it.source) (table_by tables is_alone before from system)
  unfolding system_sourced
  table_kept is_alone before from None = plain_kept before from
  table_kept is_alone before from (Some table) =
      demand_kept (λ it. SourceNoDeeper it.source) is_alone (NoObject (table_name from.table)) _
      (λ _. ok_kept (λ it. SourceNoDeeper it.source) (sourced (system_source table) (shape (source_name from) (system_columns table))) (system_flat table))

  changes_kept : (before : List Shape) (name : ObjectName) (since : Expr) (alias : List ℕ) → Within n since → Kept (λ it. SourceNoDeeper it.source) (changes_source tables variables before name since alias)
  unfolding changes_source
  changes_kept before name since alias within =
      after_kept (λ it. SourceNoDeeper it.source) (tracked_table tables name) _
      (λ table. after_kept (λ it. SourceNoDeeper it.source) (unique before alias) _
      (λ _. then_kept (NoDeeper n) (λ it. SourceNoDeeper it.source) (walk tables variables since closed >>= of_kind Number) _ (operand_kept tables variables n Number closed since within)
      (λ value below. ok_kept (λ it. SourceNoDeeper it.source) (sourced (bound.Changes table.schema.id value) (shape alias (changes_columns table.schema))) (below, tt))))

  row_version_kept : (before : List Shape) (place : Place) (from : VersionSource) → AllWithin n from.version.values → Kept (λ it. SourceNoDeeper it.source) (version_source tables variables before place from)
  unfolding version_source
  row_version_kept before place from within =
      after_kept (λ it. SourceNoDeeper it.source) (tracked_table tables from.version.table) _
      (λ table. after_kept (λ it. SourceNoDeeper it.source) (unique before from.alias) _
      (λ _. then_kept (λ version. NoneDeeper n version.values) (λ it. SourceNoDeeper it.source) (version_of table.schema from.version.columns (map (walk tables variables) from.version.values) place) _
      (version_kept n place table.schema from.version.columns (map (walk tables variables) from.version.values) (all_walked tables variables n place from.version.values within))
      (λ version all. ok_kept (λ it. SourceNoDeeper it.source) (sourced (bound.Version version) (shape from.alias (version_columns table.schema))) all)))

  source_kept : (is_alone : Bool) (before : List Shape) (from : Source) → AllWithin n (source_expressions from) → Kept (λ it. SourceNoDeeper it.source) (one_source tables variables is_alone before from)
  unfolding one_source table_source
  source_kept is_alone before (source.Table from) within = table_kept is_alone before from (system_table (table_name from.table))
  source_kept is_alone before (source.Changes table since alias) within = changes_kept before table since alias within.0
  source_kept is_alone before (source.Version from) within = row_version_kept before closed from within

  -- ---- FROM

  pub record FromNoDeeper (left right : Option BoundSource) (on : Option BoundExpr) : Type 0 where
    pub of_left : NoneDeeper n (if_given bound_source_expressions left)
    pub of_right : NoneDeeper n (if_given bound_source_expressions right)
    pub of_on : GivenNoDeeper n on

  on_kept : (first : BoundSource) (before : Shape) → SourceNoDeeper first → (kind : JoinKind) (other : Source) (on : Expr) → AllWithin n (join_expressions (clause.On kind other on))
      → Kept (λ from. FromNoDeeper from.left from.right from.on) (joined_on tables variables (sourced first before) kind other on)
  unfolding joined_on
  on_kept first before all kind other on within =
      let last : AllWithin n (on ∷ []) = all_back (Within n) (source_expressions other) (on ∷ []) within in
      then_kept (λ it. SourceNoDeeper it.source) (λ from. FromNoDeeper from.left from.right from.on) (one_source tables variables false (before ∷ []) other) _
      (source_kept false (before ∷ []) other (all_front (Within n) (source_expressions other) (on ∷ []) within))
      (λ second second_all. then_kept (NoDeeper n) (λ from. FromNoDeeper from.left from.right from.on) (condition tables variables (row_of (before ∷ second.shape ∷ [])) on) _
      (condition_kept tables variables n (row_of (before ∷ second.shape ∷ [])) on last.0)
      (λ on below. ok_kept (λ from. FromNoDeeper from.left from.right from.on) (pair (sourced first before) second (join_of kind) (Some on)) (record { of_left = all; of_right = second_all; of_on = (below, tt) })))

  apply_kept : (first : BoundSource) (before : Shape) → SourceNoDeeper first → (other : VersionSource) → AllWithin n other.version.values
      → Kept (λ from. FromNoDeeper from.left from.right from.on) (applied tables variables (sourced first before) other)
  unfolding applied
  apply_kept first before all other within =
      then_kept (λ it. SourceNoDeeper it.source) (λ from. FromNoDeeper from.left from.right from.on) (version_source tables variables (before ∷ []) (row_of (before ∷ [])) other) _
      (row_version_kept (before ∷ []) (row_of (before ∷ [])) other within)
      (λ second second_all. ok_kept (λ from. FromNoDeeper from.left from.right from.on) (pair (sourced first before) second Apply None) (record { of_left = all; of_right = second_all; of_on = tt }))

  with_kept : (first : BoundSource) (before : Shape) → SourceNoDeeper first → (join : JoinClause) → AllWithin n (join_expressions join)
      → Kept (λ from. FromNoDeeper from.left from.right from.on) (joined_with tables variables (sourced first before) join)
  with_kept first before all (clause.On kind other on) within = on_kept first before all kind other on within
  with_kept first before all (clause.Apply other) within = apply_kept first before all other within

  joined_kept : (first : Source) (join : Option JoinClause) → AllWithin n (source_expressions first) → AllWithin n (if_given join_expressions join)
      → Kept (λ from. FromNoDeeper from.left from.right from.on) (joined tables variables (record { source = first; join = join }))
  unfolding joined
  joined_kept first None within rest =
      then_kept (λ it. SourceNoDeeper it.source) (λ from. FromNoDeeper from.left from.right from.on) (one_source tables variables true [] first) _ (source_kept true [] first within)
      (λ it all. ok_kept (λ from. FromNoDeeper from.left from.right from.on) (alone it) (record { of_left = all; of_right = tt; of_on = tt }))
  joined_kept first (Some join) within rest =
      then_kept (λ it. SourceNoDeeper it.source) (λ from. FromNoDeeper from.left from.right from.on) (one_source tables variables false [] first) _ (source_kept false [] first within)
      (λ it all. with_kept it.source it.shape all join rest)

  pub from_kept : (from : Option FromClause) → AllWithin n (if_given from_expressions from) → Kept (λ from. FromNoDeeper from.left from.right from.on) (from_of tables variables from)
  from_kept None within = ok_kept (λ from. FromNoDeeper from.left from.right from.on) no_source (record { of_left = tt; of_right = tt; of_on = tt })
  from_kept (Some from) within =
      joined_kept from.source from.join (all_front (Within n) (source_expressions from.source) (if_given join_expressions from.join) within)
      (all_back (Within n) (source_expressions from.source) (if_given join_expressions from.join) within)
