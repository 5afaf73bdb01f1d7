-- The rows that a statement writes fit their table.
use Rattle.std.proofs.Common.{List, [], ◌∷◌, true}
use Rattle.std.proofs.lemmas.Int.{ints}
use Rattle.std.proofs.Common.{ℤ, arith}
use Rattle.std.specs.List.{AllByRecursion}
use Rattle.ct_types.specs.ColumnFit.{IsInt, IsBigInt, Holds}
use Rattle.ct_types.specs.declared.bound.Bound.TheVariants.{Write as Writes}
use Rattle.ct_types.specs.declared.command.Command.TheVariants.{Sql}
use Rattle.ct_types.specs.declared.schema.ColType.{ColType}
use Rattle.ct_types.specs.declared.schema.ColType.TheVariants as kind
use Rattle.ct_types.specs.declared.schema.Column.{Column}
use Rattle.ct_types.specs.declared.schema.Schema.{Schema}
use Rattle.ct_types.specs.declared.value.Row.{Row}
use Rattle.ct_types.specs.declared.value.Value.{Value}
use Rattle.ct_types.specs.declared.value.Value.TheVariants.{Null, Int, Text, Bytes}
use Rattle.ct_types.proofs.Lists.{all_found}
use Rattle.ct_model.specs.Schemas.{AllHold, RowFits}
use Rattle.ct_model.specs.Valid.{IsTableValid}
use Rattle.ct_model.proofs.Members.{all_weaken}
use Rattle.ct_machine.specs.Reads.{catalogue, world_of}
use Rattle.ct_value_laws.specs.Values.{IsRepresentable, AreRepresentable, HaveRepresentable}
use Rattle.ct_value_laws.proofs.Binding.{bound_kept}
use Rattle.ct_value_laws.proofs.Writing.{writes_fit}
use Rattle.ct_fit_laws.specs.Laws.{ValidRowsFit}

-- ---- what a table holds is representable

wider : (n : ℤ) → IsInt n → IsBigInt n
wider n is = (omega (arith, ints, is.0), omega (arith, ints, is.1))

held_value : (type : ColType) (v : Value) → Holds (record { name = []; kind = type; nullable = true }) v → IsRepresentable v
held_value type Null held = tt
held_value kind.Int (Int n) held = wider n held.1
held_value kind.BigInt (Int n) held = held.1
held_value (kind.NVarChar most) (Int n) held = absurd cc
held_value (kind.VarBinary most) (Int n) held = absurd cc
held_value kind.Int (Text t) held = absurd cc
held_value kind.BigInt (Text t) held = absurd cc
held_value (kind.NVarChar most) (Text t) held = held.1.0
held_value (kind.VarBinary most) (Text t) held = absurd cc
held_value type (Bytes b) held = tt

column_value : (column : Column) (v : Value) → Holds column v → IsRepresentable v
column_value column Null held = tt
column_value column (Int n) held = held_value column.kind (Int n) held
column_value column (Text t) held = held_value column.kind (Text t) held
column_value column (Bytes b) held = tt

row_values : (columns : List Column) (values : List Value) → AllHold columns values → AreRepresentable values
row_values [] [] held = tt
row_values [] (v ∷ values) held = absurd held
row_values (column ∷ columns) [] held = absurd held
row_values (column ∷ columns) (v ∷ values) held = (column_value column v held.0, row_values columns values held.1)

table_rows : (schema : Schema) (rows : List Row) → AllByRecursion (RowFits schema) rows → HaveRepresentable rows
table_rows schema rows fit = all_weaken (RowFits schema) (λ (row : Row). AreRepresentable row.0) (λ row held. row_values schema.columns row.0 held) rows fit

-- ---- what is written there fits

pub valid_rows_fit : ValidRowsFit
valid_rows_fit seen (Sql statement) valid held texts = λ write came table was writes wrote.
    writes_fit (world_of seen) table write writes held ((bound_kept (world_of seen) held (catalogue seen.db) seen.variables seen.db.keep statement texts).holds (Writes write) came)
    (table_rows table.schema table.rows (all_found (IsTableValid seen.db.version seen.db.keep) _ seen.db.tables table valid.tables was).rows) wrote
valid_rows_fit seen what valid held texts = tt
