-- What columns hold can be spelled, and how long it is then.
use Rattle.std.proofs.Common.{◌≡◌, ℕ, ◌*◌, ◌-◌, ◌≤◌, ℤ, true, List, [], ◌∷◌, length, slice_get, filter_map, flat_map, Option, Some, None, IfSome, refl, arith, length-append}
use Rattle.std.proofs.lemmas.Int.{ints}
use Rattle.std.specs.List.{AllByRecursion, cons_option}
use Rattle.std.specs.Option.{IsSomeAnd}
use Rattle.ct_types.specs.ColumnFit.{code_points, has_kind, IsInt, IsBigInt, IsWithin, Holds}
use Rattle.ct_types.specs.declared.schema.ColType.{ColType}
use Rattle.ct_types.specs.declared.schema.ColType.TheVariants as kind
use Rattle.ct_types.specs.declared.schema.Column.{Column}
use Rattle.ct_types.specs.declared.schema.Schema.{Schema}
use Rattle.ct_types.specs.declared.value.Key.{Key}
use Rattle.ct_types.specs.declared.value.Row.{Row}
use Rattle.ct_types.specs.declared.value.Value.{Value}
use Rattle.ct_types.specs.declared.value.Value.TheVariants.{Null, Int, Text, Bytes}
use Rattle.ct_model.specs.Schemas as model
use Rattle.ct_model.specs.Schemas.{IsType, IsColumn, IsKeyColumn, IsKey, IsSchema, AllHold}
use Rattle.ct_model.specs.Tables.{key_of}
use Rattle.ct_codec.specs.Spellings.{spell_value, ValueFits, spell_row, RowFits, spell_key, KeyFits, IsOne}
use Rattle.ct_spelling_laws.proofs.Lengths.{flat_one, all_at}
use Rattle.ct_spelling_laws.proofs.Texts.{text_few}

-- ---- values

-- a value can be spelled in a tag, a length and at most 16,000 bytes
abbrev pub IsSpelled : Value → Type 0
IsSpelled value = ValueFits value × (length (spell_value value) ≤ 16005)

wider : (n : ℤ) → IsInt n → IsBigInt n
wider n is = (omega (arith, ints, is.0), omega (arith, ints, is.1))

typed_spelled : (type : ColType) (v : Value) → IsType type → has_kind type v ≡ true → IsWithin type v → IsSpelled v
typed_spelled type Null is has within = (tt, omega arith)
typed_spelled kind.Int (Int n) is has within = (wider n within, omega arith)
typed_spelled kind.BigInt (Int n) is has within = (within, omega arith)
typed_spelled (kind.NVarChar most) (Int n) is has within = absurd cc
typed_spelled (kind.VarBinary most) (Int n) is has within = absurd cc
typed_spelled kind.Int (Text t) is has within = absurd cc
typed_spelled kind.BigInt (Text t) is has within = absurd cc
typed_spelled (kind.NVarChar most) (Text t) is has within =
    let few : length t ≤ 4 * code_points t = text_few t within.0 in
    ((omega (arith, few, within.1, is.1), within.0), omega (arith, few, within.1, is.1))
typed_spelled (kind.VarBinary most) (Text t) is has within = absurd cc
typed_spelled kind.Int (Bytes b) is has within = absurd cc
typed_spelled kind.BigInt (Bytes b) is has within = absurd cc
typed_spelled (kind.NVarChar most) (Bytes b) is has within = absurd cc
typed_spelled (kind.VarBinary most) (Bytes b) is has within = (omega (arith, within, is.1), omega (arith, within, is.1))

held_spelled : (column : Column) (v : Value) → IsColumn column → Holds column v → IsSpelled v
held_spelled column Null is held = (tt, omega arith)
held_spelled column (Int n) is held = typed_spelled column.kind (Int n) is.1 held.0 held.1
held_spelled column (Text t) is held = typed_spelled column.kind (Text t) is.1 held.0 held.1
held_spelled column (Bytes b) is held = typed_spelled column.kind (Bytes b) is.1 held.0 held.1

-- ---- rows

pub record AreSpelled (columns : List Column) (values : List Value) : Type 0 where
  pub fit : AllByRecursion ValueFits values
  pub as_many : length values ≡ length columns
  pub short : length (flat_map spell_value values) ≤ 16005 * length columns

held_all : (columns : List Column) (values : List Value) → AllByRecursion IsColumn columns → AllHold columns values → AreSpelled columns values
held_all [] [] are held = record { fit = tt; as_many = refl; short = omega arith }
held_all [] (v ∷ values) are held = absurd held
held_all (column ∷ columns) [] are held = absurd held
held_all (column ∷ columns) (v ∷ values) are held =
    let one = held_spelled column v are.0 held.0 in
    let more = held_all columns values are.1 held.1 in
    record {
      fit = (one.0, more.fit);
      as_many = omega (arith, more.as_many);
      short = omega (arith, one.1, more.short, length-append (spell_value v) (flat_map spell_value values));
    }

-- a row that fits a table can be spelled, in at most 64 values
pub row_spelled : (schema : Schema) (row : Row) → IsSchema schema → model.RowFits schema row → RowFits row × (length (spell_row row) ≤ 1024322)
row_spelled schema row is fits =
    let all = held_all schema.columns row.0 is.columns fits in
    ((omega (arith, all.as_many, is.few), all.fit), omega (arith, all.short, is.few))

-- ---- keys

one_held : (column : Option Column) (values : List Value) → IfSome column IsColumn → IsSomeAnd column IsKeyColumn → AllHold (cons_option column []) values
    → IsOne ValueFits values × (length (flat_map spell_value values) ≤ 16005)
one_held None values are key held = absurd key
one_held (Some column) [] are key held = absurd held
one_held (Some column) (v ∷ []) are key held =
    let one = held_spelled column v are held.0 in
    (one.0, omega (arith, one.1, length-append (spell_value v) []))
one_held (Some column) (v ∷ other ∷ more) are key held = absurd held.1

key_held : (columns : List Column) (ids : List ℕ) (values : List Value) → AllByRecursion IsColumn columns → IsKey columns ids
    → AllHold (filter_map (λ id. slice_get columns (id - 1)) ids) values → IsOne ValueFits values × (length (flat_map spell_value values) ≤ 16005)
key_held columns [] values are key held = absurd key
key_held columns (id ∷ []) values are key held = one_held (slice_get columns (id - 1)) values (all_at IsColumn columns (id - 1) are) key.1 held
key_held columns (id ∷ other ∷ more) values are key held = absurd key

-- a key that fits a table can be spelled: it is one value
pub key_spelled : (schema : Schema) (key : Key) → IsSchema schema → model.KeyFits schema key → KeyFits key × (length (spell_key key) ≤ 16005)
key_spelled schema key is fits = key_held schema.columns schema.key key.0 is.columns is.key fits

-- the key of a row is spelled in no more bytes than the row
picked_shorter : (values : List Value) (value : Option Value) → IfSome value (λ v. length (spell_value v) ≤ length (flat_map spell_value values))
    → length (flat_map spell_value (cons_option value [])) ≤ length (flat_map spell_value values)
picked_shorter values None one = omega arith
picked_shorter values (Some v) one = omega (arith, one, length-append (spell_value v) [])

key_shorter : (columns : List Column) (ids : List ℕ) (values : List Value) → IsKey columns ids
    → length (flat_map spell_value (filter_map (λ id. slice_get values (id - 1)) ids)) ≤ length (flat_map spell_value values)
key_shorter columns [] values key = absurd key
key_shorter columns (id ∷ []) values key = picked_shorter values (slice_get values (id - 1)) (flat_one spell_value values (id - 1))
key_shorter columns (id ∷ other ∷ more) values key = absurd key

pub key_in_row : (schema : Schema) (row : Row) → IsSchema schema → length (spell_key (key_of schema row)) ≤ length (spell_row row)
key_in_row schema row is = omega (arith, key_shorter schema.columns schema.key row.0 is.key)
