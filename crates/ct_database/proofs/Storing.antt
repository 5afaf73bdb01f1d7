-- An entry that applies is one that a database in memory can store.
use Rattle.std.proofs.Common.{◌≡◌, ℕ, ◌+◌, ◌-◌, ◌<◌, ◌≤◌, Bool, true, false, if◌then◌else◌, MatchBool, List, [], ◌∷◌, length, map, Option, Some, None, refl, arith}
use Rattle.std.specs.List.{AllByRecursion, slice_get}
use Rattle.std.specs.Option.{IfSome, IsSomeAnd}
use Rattle.std.proofs.lemmas.Option.{slice_get_within}
use Rattle.ct_types.specs.declared.value.Key.{Key}
use Rattle.ct_types.specs.declared.value.Row.{Row}
use Rattle.ct_types.specs.declared.value.Value.{Value}
use Rattle.ct_types.specs.declared.schema.Column.{Column}
use Rattle.ct_types.specs.declared.schema.Schema.{Schema}
use Rattle.ct_types.specs.declared.entry.Op.{Op}
use Rattle.ct_types.specs.declared.entry.Op.TheVariants.{Insert, Update, Delete}
use Rattle.ct_types.specs.declared.tracked.Tracked.{Tracked}
use Rattle.ct_types.specs.declared.entry.Min.{Min}
use Rattle.ct_types.specs.declared.entry.Write.{Write}
use Rattle.ct_types.specs.declared.entry.Act.{Act}
use Rattle.ct_types.specs.declared.entry.Act.TheVariants.{Commit, Define, Truncate, Enable, Disable, Database, Raise}
use Rattle.ct_model.specs.declared.db.Table.{Table}
use Rattle.ct_model.specs.declared.db.Db.{Db}
use Rattle.ct_model.specs.Applies.{ActApplies, WritesApply, WriteFits, RowIsOf, MinRises, IsRaise}
use Rattle.ct_model.specs.Apply.{written}
use Rattle.ct_model.specs.Schemas.{AllHold, IsKey, IsKeyColumn}
use Rattle.ct_model.specs.Tables.{table_of}
use Rattle.ct_database.specs.Storable.{IsRowStorable, IsWriteStorable, IsMinStorable, IsActStorable}
use Rattle.ct_database.specs.Laws.{ApplyingIsStorable}
use Rattle.ct_database.proofs.Numbered.{written_schema, found_back}

-- ---- rows

pub same_count : (columns : List Column) (values : List Value) → AllHold columns values → length values ≡ length columns
same_count [] [] hold = refl
same_count [] (value ∷ values) hold = absurd hold
same_count (column ∷ columns) [] hold = absurd hold
same_count (column ∷ columns) (value ∷ values) hold = let more : length values ≡ length columns = same_count columns values hold.1 in omega arith

row_of : (schema : Schema) (op : Op) (key : Key) (row : Option Row) → RowIsOf schema op key row → IsRowStorable schema key row
row_of schema Insert key None is = tt
row_of schema Insert key (Some row) is = (same_count schema.columns row.0 is.0, is.1)
row_of schema Update key None is = tt
row_of schema Update key (Some row) is = (same_count schema.columns row.0 is.0, is.1)
row_of schema Delete key None is = tt
row_of schema Delete key (Some row) is = absurd is

pub write_of : (write : Write) (found : Option Table) → IsSomeAnd found (WriteFits write) → IfSome found (λ table. IsRowStorable table.schema write.key write.row)
write_of write None fits = tt
write_of write (Some table) fits = row_of table.schema write.op write.key write.row fits.row

all_before : (write : Write) (tables : List Table) (others : List Write) → AllByRecursion (IsWriteStorable (map (written write) tables)) others → AllByRecursion (IsWriteStorable tables) others
all_before write tables [] storable = tt
all_before write tables (other ∷ others) storable =
    (found_back (written write) (written_schema write) (λ schema. IsRowStorable schema other.key other.row) other.table tables storable.0, all_before write tables others storable.1)

writes_of : (tables : List Table) (writes : List Write) → WritesApply tables writes → AllByRecursion (IsWriteStorable tables) writes
writes_of tables [] apply = tt
writes_of tables (write ∷ writes) apply =
    (write_of write (table_of tables write.table) apply.0, all_before write tables writes (writes_of (map (written write) tables) writes apply.1))

-- ---- schemas

there : {X : Type 0} (P : X → Type 0) (xs : List X) (i : ℕ) (found : Option X) → slice_get xs i ≡ found → IsSomeAnd found P → i < length xs
there P xs i None e is = absurd is
there P xs i (Some x) e is = slice_get_within xs i x e

pub key_of_columns : (columns : List Column) (ids : List ℕ) → IsKey columns ids → AllByRecursion (λ id. (1 ≤ id) × (id ≤ length columns)) ids
key_of_columns columns [] key = absurd key
key_of_columns columns (id ∷ []) key = let inside : id - 1 < length columns = there IsKeyColumn columns (id - 1) (slice_get columns (id - 1)) refl key.1 in ((key.0, omega (arith, key.0)), tt)
key_of_columns columns (id ∷ other ∷ more) key = absurd key

-- ---- minima

rises_from : (min : ℕ) (tracked : Option Tracked) → MinRises min tracked → IfSome tracked (λ tracked. tracked.min ≤ min)
rises_from min None rises = tt
rises_from min (Some tracked) rises = omega arith

min_of : (min : ℕ) (found : Option Table) → IsSomeAnd found (λ table. MinRises min table.tracked) → IfSome found (λ table. IfSome table.tracked (λ tracked. tracked.min ≤ min))
min_of min None rises = tt
min_of min (Some table) rises = rises_from min table.tracked rises

minima_of : (tables : List Table) (version : ℕ) (minima : List Min) → AllByRecursion (IsRaise tables version) minima → AllByRecursion (IsMinStorable tables) minima
minima_of tables version [] raises = tt
minima_of tables version (listed ∷ minima) raises = (min_of listed.min (table_of tables listed.table) raises.0.0, minima_of tables version minima raises.1)

-- ---- entries

act_of : (db : Db) (version : ℕ) (draws : Bool) (act : Act) → ActApplies db version draws act → IsActStorable db.tables act
act_of db version draws (Commit writes) apply = writes_of db.tables writes apply.1
act_of db version draws (Define schema) apply = (apply.0.id, key_of_columns schema.columns schema.key apply.0.definable.key)
act_of db version draws (Truncate id) apply = tt
act_of db version draws (Enable id masks) apply = tt
act_of db version draws (Disable id) apply = tt
act_of db version draws (Database keep) apply = tt
act_of db version draws (Raise minima) apply = minima_of db.tables version minima apply.2

version_of : (draws : Bool) (before version : ℕ) → version ≡ (if draws then before + 1 else before) → MatchBool draws (before < version) (before ≤ version)
version_of true before version e = omega arith
version_of false before version e = omega arith

pub applying_is_storable : ApplyingIsStorable
applying_is_storable db entry applies = record {
  act = act_of db entry.version entry.draws entry.act applies.act;
  version = version_of entry.draws db.version entry.version applies.version;
}
