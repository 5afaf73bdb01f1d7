-- INSERT, UPDATE and DELETE: the table, the change's context, what is written, and WHERE. The forms are T-SQL's, that of
-- the context that of WITH CHANGE_TRACKING_CONTEXT; which fault comes first is this project's own.
use Rattle.std.specs.Prelude.{ℕ, ◌+◌, Bool, not, nat_le, ◌==◌, List, [], ◌∷◌, length, map, if◌then◌else◌, Option, Some, None, Ok}
use Rattle.std.specs.List.{list_any}
use Rattle.ct_types.specs.declared.bound.BoundExpr.{BoundExpr}
use Rattle.ct_types.specs.declared.bound.BoundSet.{BoundSet}
use Rattle.ct_types.specs.declared.bound.BoundWrite.{BoundWrite}
use Rattle.ct_types.specs.declared.bound.RowChange.{RowChange}
use Rattle.ct_types.specs.declared.bound.RowChange.TheVariants.{Insert, Update, Delete}
use Rattle.ct_types.specs.declared.catalogue.Catalogued.{Catalogued}
use Rattle.ct_types.specs.declared.catalogue.Variable.{Variable}
use Rattle.ct_types.specs.declared.expr.Expr.{Expr}
use Rattle.ct_types.specs.declared.expr.ObjectName.{ObjectName}
use Rattle.ct_types.specs.declared.schema.Column.{Column}
use Rattle.ct_types.specs.declared.schema.Schema.{Schema}
use Rattle.ct_types.specs.declared.stmt.SetColumn.{SetColumn}
use Rattle.ct_types.specs.declared.stmt.TableSource.{TableSource}
use Rattle.ct_types.specs.declared.stmt.WriteStmt.{WriteStmt}
use Rattle.ct_types.specs.declared.stmt.WriteStmt.TheVariants as write
use Rattle.ct_types.specs.declared.refusal.Refusal.TheVariants.{NoColumn, NoObject, Ambiguous, KeyUpdate, TooMany}
use Rattle.ct_bind_kinds.specs.declared.kind.Kind.{Kind}
use Rattle.ct_bind_kinds.specs.declared.kind.Kind.TheVariants.{Bytes}
use Rattle.ct_bind_kinds.specs.Kinds.{kind_of_type}
use Rattle.ct_types.specs.Answers.{Answer, ◌>>=◌, ◌>>◌, demand, or_refuse, optional, each, each_after}
use Rattle.ct_bind_names.specs.Names.{same, is_among, table_name, last_part}
use Rattle.ct_bind_names.specs.Catalogue.{existing_table}
use Rattle.ct_bind_expr.specs.declared.place.Place.{Place}
use Rattle.ct_bind_expr.specs.Places.{of_kind, closed, row_of}
use Rattle.ct_bind_expr.specs.Versions.{tuple}
use Rattle.ct_bind_expr.specs.Walk.{walk}
use Rattle.ct_bind.specs.declared.writes.Target.{Target}
use Rattle.ct_bind.specs.Sources.{shape, shown_columns, source_name, condition}

-- ---- columns that are written

abbrev pub target : ℕ → Kind → Target
target column kind = record { column = column; kind = kind }

-- the columns, the first of which has this id
unfoldable pub targets_from : ℕ → List Column → List Target
targets_from id [] = []
targets_from id (column ∷ more) = target id (kind_of_type column.kind) ∷ targets_from (id + 1) more

unfoldable pub target_from : List ℕ → ℕ → List Column → Option Target
target_from name id [] = None
target_from name id (column ∷ more) = if same column.name name then Some (target id (kind_of_type column.kind)) else target_from name (id + 1) more

-- 207 where the table has no column of that name
unfoldable pub table_target : Schema → List ℕ → Answer Target
table_target table name = or_refuse (target_from name 1 table.columns) (NoColumn name)

-- a column of a list: ambiguous where the list has it before
unfoldable pub listed_target : Schema → List (List ℕ) → List ℕ → Answer Target
listed_target table before name = do
  column ← table_target table name
  demand (not (is_among name before)) (Ambiguous name)
  Ok column

-- the list of an INSERT; where none is written, all columns in order
abbrev pub targets_by : Schema → Option (List (List ℕ)) → Answer (List Target)
targets_by table None = Ok (targets_from 1 table.columns)
targets_by table (Some names) = each_after (listed_target table) [] names

unfoldable pub insert_targets : Schema → Option (List (List ℕ)) → Answer (List Target)
insert_targets = targets_by

abbrev pub is_key : Schema → ℕ → Bool
is_key table column = list_any (λ id. id == column) table.key

abbrev pub is_set : List ℕ → List SetColumn → Bool
is_set name sets = list_any (λ set. same name set.column) sets

-- the column of a SET: ambiguous where it is set before; no column of the key
unfoldable pub set_target : Schema → List SetColumn → List ℕ → Answer Target
set_target table before name = do
  column ← table_target table name
  demand (not (is_set name before)) (Ambiguous name)
  demand (not (is_key table column.column)) (KeyUpdate name)
  Ok column

-- ---- the row of an UPDATE

-- The FROM of an UPDATE names its table again, and names its row.
abbrev pub updated_by : ObjectName → Option TableSource → Answer (List ℕ)
updated_by table None = Ok (last_part table)
updated_by table (Some from) = do
  demand (same (table_name from.table) (table_name table)) (NoObject (table_name from.table))
  Ok (source_name from)

unfoldable pub updated_name : ObjectName → Option TableSource → Answer (List ℕ)
updated_name = updated_by

abbrev pub row_named : List ℕ → Schema → Place
row_named name table = row_of (shape name (shown_columns table.columns) ∷ [])

module _ (tables : List Catalogued) (variables : List Variable) where
  -- the context names no column
  unfoldable pub context_of : Expr → Answer BoundExpr
  context_of context = walk tables variables context closed >>= of_kind Bytes

  -- the list, the number of tuples, and then each tuple, which names no column
  unfoldable pub tuple_of : List Target → List Expr → Answer (List BoundExpr)
  tuple_of columns values = tuple closed (map (λ column. column.kind) columns) (map (walk tables variables) values)

  unfoldable pub insert_change : Schema → Option (List (List ℕ)) → List (List Expr) → Answer RowChange
  insert_change table columns tuples = do
    columns ← insert_targets table columns
    demand (nat_le (length tuples) 1000) (TooMany 1000)
    rows ← each (tuple_of columns) tuples
    Ok (Insert (map (λ column. column.column) columns) rows)

  -- the column, then the value
  unfoldable pub set_of : Schema → Place → List SetColumn → SetColumn → Answer BoundSet
  set_of table place before it = do
    column ← set_target table before it.column
    value ← walk tables variables it.value place >>= of_kind column.kind
    Ok (record { column = column.column; value = value })

  unfoldable pub update_change : Schema → Place → List SetColumn → Option Expr → Answer RowChange
  update_change table place sets filter = do
    sets ← each_after (set_of table place) [] sets
    filter ← optional (condition tables variables place) filter
    Ok (Update sets filter)

  unfoldable pub delete_change : Place → Option Expr → Answer RowChange
  delete_change place filter = do
    filter ← optional (condition tables variables place) filter
    Ok (Delete filter)

  abbrev pub write_to : Schema → Option BoundExpr → RowChange → BoundWrite
  write_to table context change = record { table = table.id; context = context; change = change }

  unfoldable pub insert : Option Expr → ObjectName → Option (List (List ℕ)) → List (List Expr) → Answer BoundWrite
  insert context name columns tuples = do
    table ← existing_table tables name
    context ← optional context_of context
    change ← insert_change table.schema columns tuples
    Ok (write_to table.schema context change)

  unfoldable pub update : Option Expr → ObjectName → List SetColumn → Option TableSource → Option Expr → Answer BoundWrite
  update context name sets from filter = do
    table ← existing_table tables name
    row ← updated_name name from
    context ← optional context_of context
    change ← update_change table.schema (row_named row table.schema) sets filter
    Ok (write_to table.schema context change)

  unfoldable pub delete : Option Expr → ObjectName → Option Expr → Answer BoundWrite
  delete context name filter = do
    table ← existing_table tables name
    context ← optional context_of context
    change ← delete_change (row_named (last_part name) table.schema) filter
    Ok (write_to table.schema context change)

  abbrev pub write_by : Option Expr → WriteStmt → Answer BoundWrite
  write_by context (write.Insert table columns tuples) = insert context table columns tuples
  write_by context (write.Update table sets from filter) = update context table sets from filter
  write_by context (write.Delete table filter) = delete context table filter

  unfoldable pub write_of : Option Expr → WriteStmt → Answer BoundWrite
  write_of = write_by
