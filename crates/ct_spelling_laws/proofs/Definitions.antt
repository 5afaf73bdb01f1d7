-- Definitions, settings and minima can be spelled, and how long they are then.
use Rattle.std.proofs.Common.{◌≡◌, ℕ, zero, suc, ◌+◌, ◌*◌, ◌-◌, ◌^◌, ◌≤◌, ◌<◌, List, [], ◌∷◌, ◌++◌, length, slice_get, Option, Some, None, refl, arith, length-append}
use Rattle.std.specs.List.{AllByRecursion, flat_map}
use Rattle.std.specs.Option.{IsSomeAnd}
use Rattle.byteorder.specs.Endian.{little_bytes}
use Rattle.ct_types.specs.declared.entry.Keep.{Keep}
use Rattle.ct_types.specs.declared.schema.ColType.{ColType}
use Rattle.ct_types.specs.declared.schema.ColType.TheVariants as kind
use Rattle.ct_types.specs.declared.schema.Column.{Column}
use Rattle.ct_types.specs.declared.schema.Schema.{Schema}
use Rattle.ct_types.specs.declared.tracked.Tracked.{Tracked}
use Rattle.ct_model.specs.Schemas.{IsType, IsColumn, IsKeyColumn, IsKey, IsSchema}
use Rattle.ct_model.specs.Valid.{IsKeepValid, IsTrackedValid}
use Rattle.ct_model.proofs.Members.{all_weaken}
use Rattle.ct_codec.specs.Spellings.{spell_counted, IsIn, IsOne, spell_flag, most_of, spell_type, spell_column, ColumnFits, spell_schema, SchemaFits, spell_keep, KeepFits, spell_tracked, TrackedFits}
use Rattle.ct_spelling_laws.proofs.Lengths.{flat_most}
use Rattle.ct_spelling_laws.proofs.Texts.{name_utf8, table_name}

-- ---- columns

type_fits : (type : ColType) → IsType type → IsIn 2 (most_of type)
type_fits kind.Int is = omega arith
type_fits kind.BigInt is = omega arith
type_fits (kind.NVarChar most) is = omega (arith, is.1)
type_fits (kind.VarBinary most) is = omega (arith, is.1)

-- a column can be spelled in a name with its length, a type of three bytes and a flag
abbrev IsSpelled : Column → Type 0
IsSpelled column = ColumnFits column × (length (spell_column column) ≤ 134)

column_spelled : (column : Column) → IsColumn column → IsSpelled column
column_spelled column is =
    (((omega (arith, is.0.1), name_utf8 column.name is.0), type_fits column.kind is.1), omega (arith, is.0.1, length-append column.name (spell_type column.kind ++ spell_flag column.nullable)))

-- ---- definitions

there : {X : Type 0} (xs : List X) (i : ℕ) (P : X → Type 0) → IsSomeAnd (slice_get xs i) P → i < length xs
there [] i P is = absurd is
there (x ∷ xs) zero P is = omega arith
there (x ∷ xs) (suc i) P is = omega (arith, there xs i P is)

key_spelled : (columns : List Column) (ids : List ℕ) → length columns ≤ 64 → IsKey columns ids → IsOne (IsIn 2) ids × (length (flat_map (little_bytes 2) ids) ≡ 2)
key_spelled columns [] few key = absurd key
key_spelled columns (id ∷ []) few key = (omega (arith, key.0, few, there columns (id - 1) IsKeyColumn key.1), refl)
key_spelled columns (id ∷ other ∷ more) few key = absurd key

-- a definition can be spelled, in fewer than 2^14 bytes with what stands beside it
pub schema_spelled : (schema : Schema) → IsSchema schema → schema.id ≤ 256 → SchemaFits schema × (length (spell_schema schema) ≤ 8843)
schema_spelled schema is low =
    let name = table_name schema.name is.name in
    let columns : AllByRecursion IsSpelled schema.columns = all_weaken IsColumn IsSpelled column_spelled schema.columns is.columns in
    let short : length (flat_map spell_column schema.columns) ≤ 134 * length schema.columns =
    flat_most spell_column 134 schema.columns (all_weaken IsSpelled _ (λ column one. one.1) schema.columns columns) in
    let key = key_spelled schema.columns schema.key is.few is.key in
    let ids : List ℕ = flat_map (little_bytes 2) schema.key in
    let listed : length (flat_map spell_column schema.columns ++ ids) ≡ length (flat_map spell_column schema.columns) + length ids = length-append (flat_map spell_column schema.columns) ids in (
      (
        omega (arith, low),
        (omega (arith, name.1), name.0),
        (omega (arith, is.few), all_weaken IsSpelled _ (λ column one. one.0) schema.columns columns),
        key.0,
      ),
      omega (arith, name.1, short, is.few, key.1, listed, length-append schema.name (spell_counted 2 spell_column schema.columns ++ ids)),
    )

-- ---- settings

pub keep_spelled : (keep : Option Keep) → IsKeepValid keep → KeepFits keep × (length (spell_keep keep) ≡ 10)
keep_spelled None is = (tt, refl)
keep_spelled (Some keep) is = (omega (arith, is.1), refl)

pub tracked_spelled : (version : ℕ) (keep : Option Keep) (tracked : Option Tracked) → version ≤ 2 ^ 62 → IsTrackedValid version keep tracked
    → TrackedFits tracked × (length (spell_tracked tracked) ≤ 10)
tracked_spelled version keep None within is = (tt, omega arith)
tracked_spelled version keep (Some tracked) within is = (omega (arith, within, is.1), omega arith)
