-- What the net changes of a table tell of its kept changes, in words that do not speak of how they are gathered.
-- Source: https://learn.microsoft.com/sql/relational-databases/system-functions/changetable-transact-sql; which operation
-- several changes of a key give, and where the window starts, are this project's own.
use Rattle.std.specs.Prelude.{◌≡◌, ◌≢◌, ◌↔◌, ℕ, ◌<◌, ℤ, List, map, Contains, Option, Some, Any}
use Rattle.std.specs.List.{AllByRecursion}
use Rattle.std.specs.Option.{IsSomeAnd}
use Rattle.std.specs.declared.cmp.Ordering.TheVariants.{Less}
use Rattle.ct_types.specs.Order.{key_cmp}
use Rattle.ct_types.specs.declared.value.Key.{Key}
use Rattle.ct_types.specs.declared.tracked.Tracked.{Tracked}
use Rattle.ct_types.specs.declared.tracked.NetRow.{NetRow}
use Rattle.ct_types.specs.declared.entry.Op.TheVariants.{Insert, Update, Delete}
use Rattle.ct_types.specs.declared.entry.Change.{Change}
use Rattle.ct_types.specs.declared.entry.Kept.{Kept}
use Rattle.ct_model.specs.declared.db.Table.{Table}
use Rattle.ct_model.specs.declared.db.Dated.{Dated}
use Rattle.ct_model.specs.declared.db.Db.{Db}
use Rattle.ct_model.specs.Lists.{EachToLater}
use Rattle.ct_model.specs.Net.{changes_above, floor_of, last_of, net, window}
use Rattle.ct_model.specs.Tables.{table_of}

-- a change names this key of a table
abbrev pub Names : ℕ → Key → Change → Type 0
Names id key change = (change.table ≡ id) × (change.key ≡ key)

-- a kept commit above the start of the window has such a change
abbrev pub NamesAbove : ℕ → ℕ → Key → Kept → Type 0
NamesAbove id start key kept = (start < kept.version) × Any (Names id key) kept.changes

-- an insert is among these changes of a key
abbrev pub HasInsert : List Dated → Type 0
HasInsert changes = Any (λ dated. dated.change.op ≡ Insert) changes

-- the row of a key's changes, of which this is the last: the version and the context are those of the last; it is a D
-- exactly where the last is a delete, else an I exactly where an insert is among them, and else a U
pub record IsToldBy (changes : List Dated) (row : NetRow) (last : Dated) : Type 0 where
  pub version : row.version ≡ last.version
  pub context : row.context ≡ last.change.context
  pub deletes : (row.op ≡ Delete) ↔ (last.change.op ≡ Delete)
  pub inserts : (row.op ≡ Insert) ↔ ((last.change.op ≢ Delete) × HasInsert changes)
  pub updates : (row.op ≡ Update) ↔ ((last.change.op ≢ Delete) × (¬ HasInsert changes))

-- a row tells of the changes of its key, of which there is a last
abbrev pub Tells : List Dated → NetRow → Type 0
Tells changes row = IsSomeAnd (last_of (window changes row.key)) (IsToldBy (window changes row.key) row)

-- the rows name exactly the keys that some kept change of the table above the start names, each once, in rising order;
-- and each row tells of the changes of its key
pub record AreTold (db : Db) (id start : ℕ) (rows : List NetRow) : Type 0 where
  pub keys : (key : Key) → Contains (map (λ row. row.key) rows) key ↔ Any (NamesAbove id start key) db.kept
  pub rising : EachToLater (λ row later. key_cmp row.key later.key ≡ Less) rows
  pub each : AllByRecursion (Tells (changes_above id start db.kept)) rows

-- the net changes of a tracked table since a version are such rows, with the start of the window at the greater of that
-- version and the table's minimum
abbrev pub NetTells : Type 0
NetTells =
    (db : Db) (id : ℕ) (last : Option ℤ) (table : Table) (tracked : Tracked) → table_of db.tables id ≡ Some table → table.tracked ≡ Some tracked
    → AreTold db id (floor_of tracked.min last) (net db id last)
