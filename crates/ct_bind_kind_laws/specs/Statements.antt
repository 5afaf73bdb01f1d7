-- Which bound statements are well formed: they name only what is there, and each expression has the kind that its place
-- wants, on the row on which it is evaluated. This project's own.
use Rattle.std.specs.Prelude.{◌≡◌, ◌≢◌, ℕ, ◌<◌, ◌==◌, true, if◌then◌else◌, List, [], ◌∷◌, length, map, nat_eq, find, slice_get, Option, Some, None, is_some, IfSome, IsSome}
use Rattle.std.specs.List.{AllByRecursion, IsDistinct}
use Rattle.std.specs.Option.{option_and_then, IsNone, IsSomeAnd}
use Rattle.ct_types.specs.declared.bound.BoundExpr.{BoundExpr}
use Rattle.ct_types.specs.declared.bound.BoundSet.{BoundSet}
use Rattle.ct_types.specs.declared.bound.BoundWrite.{BoundWrite}
use Rattle.ct_types.specs.declared.bound.RowChange.{RowChange}
use Rattle.ct_types.specs.declared.bound.RowChange.TheVariants.{Insert, Update, Delete}
use Rattle.ct_types.specs.declared.catalogue.Catalogued.{Catalogued}
use Rattle.ct_types.specs.declared.catalogue.Variable.{Variable}
use Rattle.ct_types.specs.declared.schema.Schema.{Schema}
use Rattle.ct_bind_kinds.specs.declared.kind.Kind.{Kind}
use Rattle.ct_bind_kinds.specs.declared.kind.Kind.TheVariants.{Bytes}
use Rattle.ct_bind_kinds.specs.Kinds.{kind_of_type}
use Rattle.ct_bind_kinds.specs.WellFormed.{Scope, table_of, column_of, column_kind, kind_of, is_of, is_condition}

-- ---- expressions

-- a value of this kind, or NULL
abbrev pub IsOf : Scope → Kind → BoundExpr → Type 0
IsOf scope wanted expr = is_of wanted (kind_of scope expr) ≡ true

abbrev pub IsCondition : Scope → BoundExpr → Type 0
IsCondition scope expr = is_condition (kind_of scope expr) ≡ true

-- ---- tables and their columns

-- the table with this id, as it stands in the catalogue
abbrev pub catalogued_of : List Catalogued → ℕ → Option Catalogued
catalogued_of tables id = find (λ table. table.schema.id == id) tables

-- the tracked table with this id
abbrev pub tracked_of : List Catalogued → ℕ → Option Schema
tracked_of tables id = option_and_then (λ table. if is_some table.tracked then Some table.schema else None) (catalogued_of tables id)

-- a table has this id
abbrev pub IsTable : List Catalogued → ℕ → Type 0
IsTable tables id = IsSome (catalogued_of tables id)

-- a tracked table has this id
abbrev pub IsTracked : List Catalogued → ℕ → Type 0
IsTracked tables id = IsSome (tracked_of tables id)

-- a table has this id, and is not tracked
abbrev pub IsUntracked : List Catalogued → ℕ → Type 0
IsUntracked tables id = IsSomeAnd (catalogued_of tables id) (λ table. IsNone table.tracked)

-- the kinds of the columns of its rows
abbrev pub table_row : Schema → List Kind
table_row table = map (λ column. kind_of_type column.kind) table.columns

-- the table has a column of this id
abbrev pub HasColumn : Schema → ℕ → Type 0
HasColumn table id = IsSome (column_of table.columns id)

-- columns of the table, none of which stands in the list twice
pub record IsColumnList (table : Schema) (ids : List ℕ) : Type 0 where
  pub columns : AllByRecursion (HasColumn table) ids
  pub distinct : IsDistinct nat_eq ids

-- the table has a column of this id, and the value is of its kind
abbrev pub FitsColumn : Scope → Schema → ℕ → BoundExpr → Type 0
FitsColumn scope table id value = IsSomeAnd (column_kind table id) (λ kind. IsOf scope kind value)

-- there are as many values as columns, each of its column's kind
abbrev pub FitColumns : Scope → Schema → List ℕ → List BoundExpr → Type 0
FitColumns scope table [] [] = Unit {0}
FitColumns scope table (id ∷ ids) (value ∷ values) = FitsColumn scope table id value × FitColumns scope table ids values
FitColumns scope table ids values = ⊥

-- a SET list sets one column at least, each once and to a value of its kind, and none of the key
pub record IsSetList (scope : Scope) (table : Schema) (sets : List BoundSet) : Type 0 where
  pub some : 0 < length sets
  pub values : AllByRecursion (λ set. FitsColumn scope table set.column set.value) sets
  pub distinct : IsDistinct nat_eq (map (λ set. set.column) sets)
  pub no_key : AllByRecursion (λ set. AllByRecursion (λ key. key ≢ set.column) table.key) sets

-- ---- statements

module _ (tables : List Catalogued) (variables : List Variable) where
  -- what an expression on a row of these columns may name
  abbrev pub scope_of : List Kind → Scope
  scope_of columns = record { columns = columns; variables = map (λ variable. variable.kind) variables; tables = map (λ table. table.schema) tables }

  -- VALUES names no column; SET and WHERE stand on a row of the table
  abbrev pub IsChange : Schema → RowChange → Type 0
  IsChange table (Insert columns tuples) = IsColumnList table columns × AllByRecursion (FitColumns (scope_of []) table columns) tuples
  IsChange table (Update sets filter) = IsSetList (scope_of (table_row table)) table sets × IfSome filter (IsCondition (scope_of (table_row table)))
  IsChange table (Delete filter) = IfSome filter (IsCondition (scope_of (table_row table)))

  -- a change of a table that is there; the context is bytes, or NULL, and names no column
  pub record IsWrite (write : BoundWrite) : Type 0 where
    pub table : Schema
    pub is : table_of (map (λ table. table.schema) tables) write.table ≡ Some table
    pub context : IfSome write.context (IsOf (scope_of []) Bytes)
    pub change : IsChange table write.change

  -- the variable is there, and the value, which names no column, is of its kind
  abbrev pub IsAssignment : ℕ → BoundExpr → Type 0
  IsAssignment variable value = IsSomeAnd (slice_get variables variable) (λ variable. IsOf (scope_of []) (kind_of_type variable.kind) value)
