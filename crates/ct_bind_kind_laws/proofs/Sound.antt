-- The tables of a valid database are sound.
use Rattle.std.proofs.Common.{◌≡◌, ℕ, zero, suc, ◌+◌, ◌-◌, ◌≤◌, ◌<◌, false, List, [], ◌∷◌, length, map, nat_eq, slice_get, Option, Some, None, refl, subst, arith}
use Rattle.std.specs.List.{AllByRecursion, IsDistinct, cons_option}
use Rattle.std.specs.Option.{IsSome, IsSomeAnd}
use Rattle.std.proofs.lemmas.Bool.Decides.{nat_tests}
use Rattle.ct_types.specs.declared.schema.Column.{Column}
use Rattle.ct_types.specs.declared.schema.Schema.{Schema}
use Rattle.ct_types.specs.declared.entry.Keep.{Keep}
use Rattle.ct_model.specs.declared.db.Table.{Table}
use Rattle.ct_model.specs.Schemas.{IsSchema, IsKeyColumn, IsKey}
use Rattle.ct_model.specs.Tables.{catalogued}
use Rattle.ct_model.specs.Valid.{AreNumbered, IsTableValid}
use Rattle.ct_bind_kinds.specs.WellFormed.{column_of}
use Rattle.ct_bind_names.specs.Names.{same}
use Rattle.ct_bind_expr.specs.Versions.{key_columns}
use Rattle.ct_bind_kind_laws.specs.Laws.{HasKey, ValidAreSound}

-- ---- ids

ids_above : (tables : List Table) (least id : ℕ) → AreNumbered least tables → id < least → AllByRecursion (λ other. nat_eq id other ≡ false) (map (λ table. table.schema.id) (map catalogued tables))
ids_above [] least id numbered below = tt
ids_above (table ∷ tables) least id numbered below =
    let here : table.schema.id ≡ least = numbered.0 in
    let apart : nat_eq id table.schema.id ≡ false = grind (arith, nat_tests) in
    (apart, ids_above tables (least + 1) id numbered.1 (omega arith))

pub ids_distinct : (tables : List Table) (least : ℕ) → AreNumbered least tables → IsDistinct nat_eq (map (λ table. table.schema.id) (map catalogued tables))
unfolding IsDistinct
ids_distinct [] least numbered = tt
ids_distinct (table ∷ tables) least numbered =
    let here : table.schema.id ≡ least = numbered.0 in
    (ids_above tables (least + 1) table.schema.id numbered.1 (omega arith), ids_distinct tables (least + 1) numbered.1)

-- ---- keys

some_of : (found : Option Column) → IsSomeAnd found IsKeyColumn → IsSome found
some_of None is = absurd is
some_of (Some column) is = refl

column_there : (columns : List Column) (id : ℕ) → 1 ≤ id → IsSomeAnd (slice_get columns (id - 1)) IsKeyColumn → IsSome (column_of columns id)
column_there columns zero least is = absurd (omega arith)
column_there columns (suc n) least is =
    let at : suc n - 1 ≡ n = omega arith in
    some_of (slice_get columns n) (subst (λ k. IsSomeAnd (slice_get columns k) IsKeyColumn) at is)

some_key : (columns : List Column) (key : List ℕ) → IsKey columns key → 0 < length key
some_key columns [] is = absurd is
some_key columns (id ∷ []) is = omega arith
some_key columns (id ∷ other ∷ more) is = absurd is

columns_there : (columns : List Column) (key : List ℕ) → IsKey columns key → AllByRecursion (λ id. IsSome (column_of columns id)) key
columns_there columns [] is = absurd is
columns_there columns (id ∷ []) is = (column_there columns id is.0 is.1, tt)
columns_there columns (id ∷ other ∷ more) is = absurd is

one_name : (found : Option Column) → IsDistinct same (map (λ column. column.name) (cons_option found []))
unfolding IsDistinct
one_name None = tt
one_name (Some column) = (tt, tt)

names_apart : (table : Schema) (key : List ℕ) → IsKey table.columns key → IsDistinct same (map (λ column. column.name) (key_columns (record table { key = key })))
unfolding key_columns
names_apart table [] is = absurd is
names_apart table (id ∷ []) is = one_name (column_of table.columns id)
names_apart table (id ∷ other ∷ more) is = absurd is

has_key : (table : Schema) → IsSchema table → HasKey table
has_key table is = record { some = some_key table.columns table.key is.key; columns = columns_there table.columns table.key is.key; names = names_apart table table.key is.key }

keys : (version : ℕ) (keep : Option Keep) (tables : List Table) → AllByRecursion (IsTableValid version keep) tables → AllByRecursion (λ table. HasKey table.schema) (map catalogued tables)
keys version keep [] valid = tt
keys version keep (table ∷ tables) valid = (has_key table.schema valid.0.schema, keys version keep tables valid.1)

pub valid_are_sound : ValidAreSound
valid_are_sound db valid = record { distinct = ids_distinct db.tables 1 valid.numbered; keys = keys db.version db.keep db.tables valid.tables }
