-- Laws of writes.
use Rattle.std.specs.Prelude.{◌≡◌, ◌≢◌, ℕ, ◌-◌, ◌≤◌, ◌<◌, true, List, [], ◌∷◌, length, map, fold, slice_get, Option, Some, None, IfSome, Ok, IfOk}
use Rattle.std.specs.List.{AllByRecursion}
use Rattle.ct_types.specs.ColumnFit.{has_kind}
use Rattle.ct_types.specs.declared.bound.BoundExpr.{BoundExpr}
use Rattle.ct_types.specs.declared.bound.BoundSet.{BoundSet}
use Rattle.ct_types.specs.declared.bound.BoundWrite.{BoundWrite}
use Rattle.ct_types.specs.declared.bound.RowChange.{RowChange}
use Rattle.ct_types.specs.declared.bound.RowChange.TheVariants.{Insert, Update, Delete}
use Rattle.ct_types.specs.declared.entry.Write.{Write}
use Rattle.ct_types.specs.declared.schema.Column.{Column}
use Rattle.ct_types.specs.declared.schema.Schema.{Schema}
use Rattle.ct_types.specs.declared.value.Row.{Row}
use Rattle.ct_model.specs.declared.db.Table.{Table}
use Rattle.ct_model.specs.Applies.{WritesApply}
use Rattle.ct_model.specs.Apply.{written}
use Rattle.ct_model.specs.Schemas.{IsSchema, RowFits}
use Rattle.ct_model.specs.Tables.{catalogued, key_of, table_of}
use Rattle.ct_model.specs.Valid.{AreRising}
use Rattle.ct_expr.specs.Meaning.{World, on, value}
use Rattle.ct_write.specs.Duplicates.{duplicate}
use Rattle.ct_write.specs.Fitting.{IsFit}
use Rattle.ct_write.specs.Rows.{no_row, set_columns}
use Rattle.ct_write.specs.Writes.{writes_of}

-- ---- a statement of a table

-- an UPDATE names columns of the table, at least one, and none of the key
pub record SetsColumns (schema : Schema) (sets : List BoundSet) : Type 0 where
  pub some : 0 < length sets
  pub columns : AllByRecursion (λ id. (1 ≤ id) × (id ≤ length schema.columns)) (set_columns sets)
  pub no_key : AllByRecursion (λ id. AllByRecursion (λ key. key ≢ id) schema.key) (set_columns sets)

abbrev pub IsOfTable : Schema → RowChange → Type 0
IsOfTable schema (Update sets filter) = SetsColumns schema sets
IsOfTable schema (Insert columns tuples) = Unit {0}
IsOfTable schema (Delete filter) = Unit {0}

-- wherever an expression comes to a value on this row, the value is of the kind of the column with this id
abbrev pub Suits : World → List Column → Row → ℕ → BoundExpr → Type 0
Suits w columns row id expr = IfSome (slice_get columns (id - 1)) (λ column. IfOk (value (on w row) expr) (λ v. has_kind column.kind v ≡ true))

abbrev pub EachSuits : World → List Column → Row → List ℕ → List BoundExpr → Type 0
EachSuits w columns row (id ∷ ids) (expr ∷ exprs) = Suits w columns row id expr × EachSuits w columns row ids exprs
EachSuits w columns row ids exprs = Unit {0}

-- each expression gives its column values of the column's kind, as the kinds of a bound statement promise
abbrev pub IsOfKinds : World → Schema → List Row → RowChange → Type 0
IsOfKinds w schema rows (Insert columns tuples) = AllByRecursion (EachSuits w schema.columns no_row columns) tuples
IsOfKinds w schema rows (Update sets filter) =
    AllByRecursion (λ row. AllByRecursion (λ set. Suits w schema.columns row set.column set.value) sets) rows
IsOfKinds w schema rows (Delete filter) = Unit {0}

-- ---- what becomes of the table

-- the rows of a table after these writes, one after the other
abbrev pub rows_after : Table → List Write → List Row
rows_after table writes = (fold (λ before write. written write before) table writes).rows

-- the writes of a statement apply to the table as it stands, when no insert repeats a key; `writes` promises that their
-- rows fit
abbrev pub AreAccepted : Type 0
AreAccepted =
    (w : World) (tables : List Table) (table : Table) (bound : BoundWrite) (writes : List Write)
    → table_of tables table.schema.id ≡ Some table → IsSchema table.schema → AllByRecursion (RowFits table.schema) table.rows → AreRising table.schema table.rows
    → IsOfTable table.schema bound.change → IsOfKinds w table.schema table.rows bound.change
    → writes_of w (catalogued table) bound table.rows ≡ Ok writes → AllByRecursion (λ write. IsFit table.schema.columns write.row) writes
    → duplicate table.schema table.rows writes ≡ None → WritesApply tables writes

-- the writes of an UPDATE leave the keys as they were
abbrev pub UpdatesKeepKeys : Type 0
UpdatesKeepKeys =
    (w : World) (table : Table) (id : ℕ) (context : Option BoundExpr) (sets : List BoundSet) (filter : Option BoundExpr) (writes : List Write)
    → IsSchema table.schema → AreRising table.schema table.rows → SetsColumns table.schema sets
    → writes_of w (catalogued table) (record { table = id; context = context; change = Update sets filter }) table.rows ≡ Ok writes
    → map (key_of table.schema) (rows_after table writes) ≡ map (key_of table.schema) table.rows

-- a DELETE without WHERE leaves no row
abbrev pub DeletesAll : Type 0
DeletesAll =
    (w : World) (table : Table) (id : ℕ) (context : Option BoundExpr) (writes : List Write)
    → AreRising table.schema table.rows
    → writes_of w (catalogued table) (record { table = id; context = context; change = Delete None }) table.rows ≡ Ok writes
    → rows_after table writes ≡ []
