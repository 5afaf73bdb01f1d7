-- The sources of FROM: tables, CHANGETABLE and the system tables of change tracking, with the columns that they show, as
-- in T-SQL's documentation of CHANGETABLE, sys.dm_tran_commit_table and sys.change_tracking_tables. That the system tables
-- stand alone and show only a part of their columns, with commit_time a number in place of a datetime, and which fault
-- comes first, is this project's own.
use Rattle.std.specs.Prelude.{ℕ, Bool, true, false, not, codes, List, [], ◌∷◌, ◌++◌, map, Option, Some, None, Ok}
use Rattle.std.specs.List.{list_any}
use Rattle.ct_types.specs.declared.bound.BoundExpr.{BoundExpr}
use Rattle.ct_types.specs.declared.bound.BoundSource.{BoundSource}
use Rattle.ct_types.specs.declared.bound.BoundSource.TheVariants as bound
use Rattle.ct_types.specs.declared.bound.Join.{Join}
use Rattle.ct_types.specs.declared.bound.Join.TheVariants.{One, Inner, Left, Right, Apply}
use Rattle.ct_types.specs.declared.catalogue.Catalogued.{Catalogued}
use Rattle.ct_types.specs.declared.catalogue.Variable.{Variable}
use Rattle.ct_types.specs.declared.expr.Expr.{Expr}
use Rattle.ct_types.specs.declared.expr.ObjectName.{ObjectName}
use Rattle.ct_types.specs.declared.schema.Column.{Column}
use Rattle.ct_types.specs.declared.schema.Schema.{Schema}
use Rattle.ct_types.specs.declared.stmt.FromClause.{FromClause}
use Rattle.ct_types.specs.declared.stmt.JoinClause.{JoinClause}
use Rattle.ct_types.specs.declared.stmt.JoinClause.TheVariants as clause
use Rattle.ct_types.specs.declared.stmt.JoinKind.{JoinKind}
use Rattle.ct_types.specs.declared.stmt.JoinKind.TheVariants as kind
use Rattle.ct_types.specs.declared.stmt.Source.{Source}
use Rattle.ct_types.specs.declared.stmt.Source.TheVariants as source
use Rattle.ct_types.specs.declared.stmt.TableSource.{TableSource}
use Rattle.ct_types.specs.declared.stmt.VersionSource.{VersionSource}
use Rattle.ct_types.specs.declared.refusal.Refusal.TheVariants.{NoObject, Ambiguous}
use Rattle.ct_bind_kinds.specs.declared.kind.Kind.{Kind}
use Rattle.ct_bind_kinds.specs.declared.kind.Kind.TheVariants.{Number, Text, Bytes, Condition}
use Rattle.ct_bind_kinds.specs.Kinds.{kind_of_type}
use Rattle.ct_bind_names.specs.declared.catalogue.SystemTable.{SystemTable}
use Rattle.ct_bind_names.specs.declared.catalogue.SystemTable.TheVariants.{Commits, Tracking}
use Rattle.ct_types.specs.Answers.{Answer, ◌>>=◌, ◌>>◌, demand}
use Rattle.ct_bind_names.specs.Names.{same, table_name, last_part}
use Rattle.ct_bind_names.specs.Catalogue.{existing_table, tracked_table, system_table}
use Rattle.ct_bind_expr.specs.declared.place.Shown.{Shown}
use Rattle.ct_bind_expr.specs.declared.place.Shape.{Shape}
use Rattle.ct_bind_expr.specs.declared.place.Place.{Place}
use Rattle.ct_bind_expr.specs.Places.{of_kind, closed, row_of}
use Rattle.ct_bind_expr.specs.Versions.{key_columns, version_of}
use Rattle.ct_bind_expr.specs.Walk.{walk}
use Rattle.ct_bind.specs.declared.sources.Sourced.{Sourced}
use Rattle.ct_bind.specs.declared.sources.Joined.{Joined}

-- ---- what sources show

abbrev pub shown : List ℕ → Kind → Shown
shown name kind = record { name = name; kind = kind }

abbrev pub shape : List ℕ → List Shown → Shape
shape name columns = record { name = name; columns = columns }

-- the columns of a table, as they are defined
unfoldable pub shown_columns : List Column → List Shown
shown_columns columns = map (λ column. shown column.name (kind_of_type column.kind)) columns

unfoldable pub changes_columns : Schema → List Shown
changes_columns table =
    shown (codes "SYS_CHANGE_VERSION") Number ∷ shown (codes "SYS_CHANGE_CREATION_VERSION") Number ∷ shown (codes "SYS_CHANGE_OPERATION") Text ∷
    shown (codes "SYS_CHANGE_COLUMNS") Bytes ∷ shown (codes "SYS_CHANGE_CONTEXT") Bytes ∷ shown_columns (key_columns table)

unfoldable pub version_columns : Schema → List Shown
version_columns table = shown (codes "SYS_CHANGE_VERSION") Number ∷ shown (codes "SYS_CHANGE_CONTEXT") Bytes ∷ shown_columns (key_columns table)

unfoldable pub system_columns : SystemTable → List Shown
system_columns Commits = shown (codes "commit_ts") Number ∷ shown (codes "xdes_id") Number ∷ shown (codes "commit_time") Number ∷ []
system_columns Tracking =
    shown (codes "object_id") Number ∷ shown (codes "is_track_columns_updated_on") Number ∷ shown (codes "min_valid_version") Number ∷ []

abbrev pub system_source : SystemTable → BoundSource
system_source Commits = bound.CommitTable
system_source Tracking = bound.TrackingTables

-- ---- names of sources

abbrev pub name_or : Option (List ℕ) → List ℕ → List ℕ
name_or (Some alias) name = alias
name_or None name = name

-- a source has the name of its alias, or the last part of its table's name
unfoldable pub source_name : TableSource → List ℕ
source_name from = name_or from.alias (last_part from.table)

-- no source before has the name
unfoldable pub unique : List Shape → List ℕ → Answer (Unit {0})
unique before name = demand (not (list_any (λ source. same source.name name) before)) (Ambiguous name)

-- ---- sources, after those before them

abbrev pub sourced : BoundSource → Shape → Sourced
sourced source shape = record { source = source; shape = shape }

-- a system table stands alone; 208 where it has another source beside it
unfoldable pub system_sourced : Bool → SystemTable → TableSource → Answer Sourced
system_sourced is_alone table from = do
  demand is_alone (NoObject (table_name from.table))
  Ok (sourced (system_source table) (shape (source_name from) (system_columns table)))

module _ (tables : List Catalogued) where
  unfoldable pub plain_sourced : List Shape → TableSource → Answer Sourced
  plain_sourced before from = do
    table ← existing_table tables from.table
    unique before (source_name from)
    Ok (sourced (bound.Table table.schema.id) (shape (source_name from) (shown_columns table.schema.columns)))

  abbrev pub table_by : Bool → List Shape → TableSource → Option SystemTable → Answer Sourced
  table_by is_alone before from (Some table) = system_sourced is_alone table from
  table_by is_alone before from None = plain_sourced before from

  unfoldable pub table_source : Bool → List Shape → TableSource → Answer Sourced
  table_source is_alone before from = table_by is_alone before from (system_table (table_name from.table))

-- ---- FROM

abbrev pub no_source : Joined
no_source = record { left = None; right = None; join = One; on = None; shapes = [] }

abbrev pub alone : Sourced → Joined
alone first = record { left = Some first.source; right = None; join = One; on = None; shapes = first.shape ∷ [] }

abbrev pub pair : Sourced → Sourced → Join → Option BoundExpr → Joined
pair first second join on = record { left = Some first.source; right = Some second.source; join = join; on = on; shapes = first.shape ∷ second.shape ∷ [] }

abbrev pub join_of : JoinKind → Join
join_of kind.Inner = Inner
join_of kind.Left = Left
join_of kind.Right = Right

module _ (tables : List Catalogued) (variables : List Variable) where
  -- a condition at a place
  unfoldable pub condition : Place → Expr → Answer BoundExpr
  condition place expr = walk tables variables expr place >>= of_kind Condition

  -- CHANGETABLE(CHANGES ..): the table, the name, and then the number, which names no column
  unfoldable pub changes_source : List Shape → ObjectName → Expr → List ℕ → Answer Sourced
  changes_source before name since alias = do
    table ← tracked_table tables name
    unique before alias
    since ← walk tables variables since closed >>= of_kind Number
    Ok (sourced (bound.Changes table.schema.id since) (shape alias (changes_columns table.schema)))

  -- CHANGETABLE(VERSION ..): the table, the name, the list, and then the tuple, which is walked at this place
  unfoldable pub version_source : List Shape → Place → VersionSource → Answer Sourced
  version_source before place from = do
    table ← tracked_table tables from.version.table
    unique before from.alias
    version ← version_of table.schema from.version.columns (map (walk tables variables) from.version.values) place
    Ok (sourced (bound.Version version) (shape from.alias (version_columns table.schema)))

  abbrev pub source_of : Bool → List Shape → Source → Answer Sourced
  source_of is_alone before (source.Table from) = table_source tables is_alone before from
  source_of is_alone before (source.Changes table since alias) = changes_source before table since alias
  source_of is_alone before (source.Version from) = version_source before closed from

  unfoldable pub one_source : Bool → List Shape → Source → Answer Sourced
  one_source = source_of

  -- ---- joins

  -- ON sees both sources
  unfoldable pub joined_on : Sourced → JoinKind → Source → Expr → Answer Joined
  joined_on first kind other on = do
    second ← one_source false (first.shape ∷ []) other
    on ← condition (row_of (first.shape ∷ second.shape ∷ [])) on
    Ok (pair first second (join_of kind) (Some on))

  -- the second source is there: what is left is ON
  abbrev pub joined_pair : BoundSource → List Shape → JoinKind → Sourced → Expr → Answer Joined
  joined_pair left before kind second on = do
    on ← condition (row_of (before ++ second.shape ∷ [])) on
    Ok (record { left = Some left; right = Some second.source; join = join_of kind; on = Some on; shapes = before ++ second.shape ∷ [] })

  -- in CROSS APPLY the tuple sees the left row
  unfoldable pub applied : Sourced → VersionSource → Answer Joined
  applied first other = do
    second ← version_source (first.shape ∷ []) (row_of (first.shape ∷ [])) other
    Ok (pair first second Apply None)

  abbrev pub joined_with : Sourced → JoinClause → Answer Joined
  joined_with first (clause.On kind other on) = joined_on first kind other on
  joined_with first (clause.Apply other) = applied first other

  abbrev pub joined_by : Source → Option JoinClause → Answer Joined
  joined_by first None = do
    first ← one_source true [] first
    Ok (alone first)
  joined_by first (Some join) = do
    first ← one_source false [] first
    joined_with first join

  unfoldable pub joined : FromClause → Answer Joined
  joined from = joined_by from.source from.join
