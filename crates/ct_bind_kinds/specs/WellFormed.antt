-- Which bound expressions are well formed, and of which kind each is. The forms are those of T-SQL's expressions and of
-- the functions of change tracking; their kinds are this project's own.
--
-- Each rule stands on one line: it tells the kind of a form by those of its parts, which stand in their places. None is
-- the kind of what is not well formed.
use Rattle.std.specs.Prelude.{ℕ, zero, suc, Bool, true, false, ◌&&◌, ◌==◌, if◌then◌else◌, List, map, find, slice_get, Option, Some, None}
use Rattle.std.specs.List.{list_all}
use Rattle.std.specs.Option.{option_map, option_and_then}
use Rattle.std.specs.Cmp.Lexicographic.{pointwise}
use Rattle.ct_types.specs.declared.bound.BoundExpr.{BoundExpr}
use Rattle.ct_types.specs.declared.bound.BoundExpr.TheOpen as e
use Rattle.ct_types.specs.declared.bound.BoundExpr.TheOpen.{BoundExpr-F, BoundTerm-F, BoundScalar-F, BoundRowVersion-F}
use Rattle.ct_types.specs.declared.bound.BoundExpr.TheFolds.{fold-BoundExpr, fold-BoundRowVersion}
use Rattle.ct_types.specs.declared.bound.BoundRowVersion.{BoundRowVersion}
use Rattle.ct_types.specs.declared.bound.VersionColumn.{VersionColumn}
use Rattle.ct_types.specs.declared.bound.VersionColumn.TheVariants as shown
use Rattle.ct_types.specs.declared.schema.ColType.{ColType}
use Rattle.ct_types.specs.declared.schema.Column.{Column}
use Rattle.ct_types.specs.declared.schema.Schema.{Schema}
use Rattle.ct_bind_kinds.specs.declared.kind.Kind.{Kind}
use Rattle.ct_bind_kinds.specs.declared.kind.Kind.TheVariants.{Number, Text, Bytes, Condition, Null}
use Rattle.ct_bind_kinds.specs.Kinds.{kind_of_type, is_value, suits}

-- What an expression may name: the columns of the row on which it is evaluated, by their kinds, the variables, by their
-- types, and the tables, by their ids.
pub record Scope : Type 0 where
  pub columns : List Kind
  pub variables : List ColType
  pub tables : List Schema

-- ---- columns of tables

-- the table with this id
abbrev pub table_of : List Schema → ℕ → Option Schema
table_of tables id = find (λ table. table.id == id) tables

-- the column with this id: they are numbered from 1
abbrev pub column_of : List Column → ℕ → Option Column
column_of columns zero = None
column_of columns (suc n) = slice_get columns n

abbrev pub column_kind : Schema → ℕ → Option Kind
column_kind table id = option_map (λ column. kind_of_type column.kind) (column_of table.columns id)

-- the kinds of the key, in key order
abbrev pub key_kinds : Schema → List (Option Kind)
key_kinds table = map (column_kind table) table.key

-- a column of CHANGETABLE(VERSION ..)
abbrev pub version_column_kind : Schema → VersionColumn → Option Kind
version_column_kind table shown.Version = Some Number
version_column_kind table shown.Context = Some Bytes
version_column_kind table (shown.Key at) = option_and_then (λ id. column_kind table id) (slice_get table.key at)

-- ---- tests of parts

-- a value of this kind, or NULL
abbrev pub is_of : Kind → Option Kind → Bool
is_of wanted None = false
is_of wanted (Some kind) = suits kind wanted

abbrev pub is_any_value : Option Kind → Bool
is_any_value None = false
is_any_value (Some kind) = is_value kind

abbrev pub is_condition : Option Kind → Bool
is_condition (Some Condition) = true
is_condition kind = false

-- two values whose kinds agree
abbrev pub go_together : Option Kind → Option Kind → Bool
go_together (Some a) (Some b) = is_value a && suits b a
go_together a b = false

abbrev pub when : Bool → Option Kind → Option Kind
when true kind = kind
when false kind = None

abbrev pub either_of : Option Kind → Option Kind → Option Kind
either_of (Some Null) b = b
either_of a b = a

-- ---- the rules

abbrev pub expr_kind : Scope → BoundExpr-F (Option Kind) (Option Schema) (Option Kind) (Option Kind) → Option Kind
expr_kind s e.Null = Some Null
expr_kind s (e.Number n) = Some Number
expr_kind s (e.Text t) = Some Text
expr_kind s (e.Bytes b) = Some Bytes
expr_kind s (e.Column at) = slice_get s.columns at
expr_kind s (e.Variable at) = option_map kind_of_type (slice_get s.variables at)
expr_kind s e.CurrentVersion = Some Number
expr_kind s (e.MinValidVersion table) = when (is_of Number table) (Some Number)
expr_kind s (e.IsColumnInMask column mask) = when (is_of Number column && is_of Bytes mask) (Some Number)
expr_kind s (e.ObjectId name) = when (is_of Text name) (Some Number)
expr_kind s (e.ColumnProperty table column property) = when (is_of Number table && is_of Text column && is_of Text property) (Some Number)
expr_kind s (e.IfNull a b) = when (go_together a b) (either_of a b)
expr_kind s (e.Scalar value) = value
expr_kind s (e.Negative a) = when (is_of Number a) (Some Number)
expr_kind s (e.Product factors) = when (list_all (is_of Number) factors) (Some Number)
expr_kind s (e.Sum first more) = when (is_of Number first && list_all (is_of Number) more) (Some Number)
expr_kind s (e.Compare operator a b) = when (go_together a b) (Some Condition)
expr_kind s (e.IsNull a) = when (is_any_value a) (Some Condition)
expr_kind s (e.IsNotNull a) = when (is_any_value a) (Some Condition)
expr_kind s (e.Not a) = when (is_condition a) (Some Condition)
expr_kind s (e.And operands) = when (list_all is_condition operands) (Some Condition)
expr_kind s (e.Or operands) = when (list_all is_condition operands) (Some Condition)

-- an operand of a sum has the kind of its value
abbrev pub term_kind : {A B C : Type 0} → BoundTerm-F (Option Kind) A B C → Option Kind
term_kind term = term.value

-- the table of CHANGETABLE(VERSION ..), where as many values are given as its key has columns, each of the column's kind
abbrev pub row_version_table : {A B C : Type 0} → Scope → BoundRowVersion-F (Option Kind) A B C → Option Schema
row_version_table s version = option_and_then (λ table. if pointwise go_together version.values (key_kinds table) then Some table else None) (table_of s.tables version.table)

-- the column that a scalar form shows
abbrev pub scalar_kind : {A C D : Type 0} → BoundScalar-F A (Option Schema) C D → Option Kind
scalar_kind scalar = option_and_then (λ table. version_column_kind table scalar.column) scalar.version

-- the kind of an expression; None where it is not well formed
abbrev pub kind_of : Scope → BoundExpr → Option Kind
kind_of s = fold-BoundExpr (Option Kind) (Option Schema) (Option Kind) (Option Kind) (expr_kind s) (row_version_table s) scalar_kind term_kind

-- the table of CHANGETABLE(VERSION ..); None where it is not well formed
abbrev pub table_of_version : Scope → BoundRowVersion → Option Schema
table_of_version s = fold-BoundRowVersion (Option Kind) (Option Schema) (Option Kind) (Option Kind) (expr_kind s) (row_version_table s) scalar_kind term_kind
