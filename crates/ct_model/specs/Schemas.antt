-- The schemas that a definition may give a table, and the rows and keys that fit a schema. The types are those of
-- https://learn.microsoft.com/sql/t-sql/data-types/data-types-transact-sql; which tables may be defined is this project's own.
use Rattle.std.specs.Prelude.{◌≡◌, ◌≢◌, ℕ, ◌-◌, ◌≤◌, false, codes, List, [], ◌∷◌, length, map, slice_get}
use Rattle.std.specs.List.{AllByRecursion, filter_map}
use Rattle.std.specs.Option.{IsSomeAnd}
use Rattle.ct_types.specs.ColumnFit.{Holds}
use Rattle.ct_types.specs.declared.value.Value.{Value}
use Rattle.ct_types.specs.declared.value.Key.{Key}
use Rattle.ct_types.specs.declared.value.Row.{Row}
use Rattle.ct_types.specs.declared.schema.ColType.{ColType}
use Rattle.ct_types.specs.declared.schema.ColType.TheVariants.{Int, BigInt, NVarChar, VarBinary}
use Rattle.ct_types.specs.declared.schema.Column.{Column}
use Rattle.ct_types.specs.declared.schema.Schema.{Schema}
use Rattle.ct_model.specs.Lists.{EachToLater}
use Rattle.ct_model.specs.Names.{folded, IsName, IsTableName, IsInSys}

-- NVARCHAR has 1 to 4,000 code points, VARBINARY 1 to 8,000 bytes
abbrev pub IsType : ColType → Type 0
IsType Int = Unit {0}
IsType BigInt = Unit {0}
IsType (NVarChar most) = (1 ≤ most) × (most ≤ 4000)
IsType (VarBinary most) = (1 ≤ most) × (most ≤ 8000)

-- a column has a name and a type
abbrev pub IsColumn : Column → Type 0
IsColumn column = IsName column.name × IsType column.kind

-- the columns that CHANGETABLE(CHANGES ..) shows beside the key, whose names a key column may not have
abbrev pub change_columns : List (List ℕ)
change_columns =
    codes "SYS_CHANGE_VERSION" ∷ codes "SYS_CHANGE_CREATION_VERSION" ∷ codes "SYS_CHANGE_OPERATION" ∷ codes "SYS_CHANGE_COLUMNS" ∷ codes "SYS_CHANGE_CONTEXT" ∷ []

-- a key column is not nullable, and has no such name
abbrev pub IsKeyColumn : Column → Type 0
IsKeyColumn column = (column.nullable ≡ false) × AllByRecursion (λ name. folded column.name ≢ folded name) change_columns

-- the key is exactly one column of the table
abbrev pub IsKey : List Column → List ℕ → Type 0
IsKey columns [] = ⊥
IsKey columns (id ∷ []) = (1 ≤ id) × IsSomeAnd (slice_get columns (id - 1)) IsKeyColumn
IsKey columns (id ∷ other ∷ more) = ⊥

-- a schema that a definition may give: at most 64 columns, of different names
pub record IsSchema (schema : Schema) : Type 0 where
  pub name : IsTableName schema.name
  pub not_sys : ¬ IsInSys schema.name
  pub few : length schema.columns ≤ 64
  pub columns : AllByRecursion IsColumn schema.columns
  pub distinct : EachToLater (λ a b. a ≢ b) (map (λ column. folded column.name) schema.columns)
  pub key : IsKey schema.columns schema.key

-- a value for each column, which that column may hold
abbrev pub AllHold : List Column → List Value → Type 0
AllHold [] [] = Unit {0}
AllHold [] (value ∷ values) = ⊥
AllHold (column ∷ columns) [] = ⊥
AllHold (column ∷ columns) (value ∷ values) = Holds column value × AllHold columns values

-- a row fits a schema where its values are held by its columns
abbrev pub RowFits : Schema → Row → Type 0
RowFits schema row = AllHold schema.columns row.0

-- the columns of the key, in key order
abbrev pub key_columns : Schema → List Column
key_columns schema = filter_map (λ id. slice_get schema.columns (id - 1)) schema.key

-- a key fits a schema where its values are held by the columns of the key
abbrev pub KeyFits : Schema → Key → Type 0
KeyFits schema key = AllHold (key_columns schema) key.0
