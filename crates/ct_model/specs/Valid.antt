-- A valid database: what a checkpoint may hold, and what entries that apply keep. This project's own; the least retention is that of
-- https://learn.microsoft.com/sql/t-sql/statements/alter-database-transact-sql-set-options.
use Rattle.std.specs.Prelude.{◌≡◌, ◌≢◌, ℕ, ◌+◌, ◌*◌, ◌^◌, ◌≤◌, ◌<◌, true, List, [], ◌∷◌, length, map, Option, None, Some, IsSome, MatchBool}
use Rattle.std.specs.List.{AllByRecursion}
use Rattle.std.specs.Option.{IsSomeAnd}
use Rattle.std.specs.declared.cmp.Ordering.TheVariants.{Less}
use Rattle.ct_types.specs.Order.{key_cmp}
use Rattle.ct_types.specs.declared.value.Row.{Row}
use Rattle.ct_types.specs.declared.schema.Schema.{Schema}
use Rattle.ct_types.specs.declared.tracked.Tracked.{Tracked}
use Rattle.ct_types.specs.declared.entry.Op.{Op}
use Rattle.ct_types.specs.declared.entry.Op.TheVariants.{Insert, Update, Delete}
use Rattle.ct_types.specs.declared.entry.Keep.{Keep}
use Rattle.ct_types.specs.declared.entry.Change.{Change}
use Rattle.ct_types.specs.declared.entry.Kept.{Kept}
use Rattle.ct_model.specs.declared.db.Table.{Table}
use Rattle.ct_model.specs.declared.db.Db.{Db}
use Rattle.ct_model.specs.Apply.{commit_stays}
use Rattle.ct_model.specs.Lists.{EachToLater}
use Rattle.ct_model.specs.Names.{folded}
use Rattle.ct_model.specs.Schemas.{IsSchema, RowFits, KeyFits}
use Rattle.ct_model.specs.Tables.{key_of, table_of, is_above, has_masks}

-- a retention in seconds: from a minute to 2,147,483,647 days
abbrev pub IsRetention : ℕ → Type 0
IsRetention seconds = (60 ≤ seconds) × (seconds ≤ 2147483647 * 86400)

-- the settings of a database that is on have a retention that is one
abbrev pub IsKeepValid : Option Keep → Type 0
IsKeepValid None = Unit {0}
IsKeepValid (Some keep) = IsRetention keep.retention

-- the tables are numbered from this id on
abbrev pub AreNumbered : ℕ → List Table → Type 0
AreNumbered id [] = Unit {0}
AreNumbered id (table ∷ tables) = (table.schema.id ≡ id) × AreNumbered (id + 1) tables

-- the rows stand in strictly rising key order
abbrev pub AreRising : Schema → List Row → Type 0
AreRising schema rows = EachToLater (λ row later. key_cmp (key_of schema row) (key_of schema later) ≡ Less) rows

-- a table is tracked only where the database is, and its minimum is at most the version
abbrev pub IsTrackedValid : ℕ → Option Keep → Option Tracked → Type 0
IsTrackedValid version keep None = Unit {0}
IsTrackedValid version keep (Some tracked) = IsSome keep × (tracked.min ≤ version)

-- the table's schema is one that a definition may give, its rows fit it and rise, and it is tracked as it may be
pub record IsTableValid (version : ℕ) (keep : Option Keep) (table : Table) : Type 0 where
  pub schema : IsSchema table.schema
  pub rows : AllByRecursion (RowFits table.schema) table.rows
  pub rising : AreRising table.schema table.rows
  pub tracked : IsTrackedValid version keep table.tracked

-- the mask of a change has the columns that an update of a table with masks sets, at least one; every other mask is
-- empty
abbrev pub MaskFits : Table → Op → ℕ → Type 0
MaskFits table Update mask = MatchBool (has_masks table.tracked) ((0 < mask) × (mask < 2 ^ length table.schema.columns)) (mask ≡ 0)
MaskFits table Insert mask = mask ≡ 0
MaskFits table Delete mask = mask ≡ 0

-- a context has at most 128 bytes
abbrev pub ContextFits : Option (List ℕ) → Type 0
ContextFits None = Unit {0}
ContextFits (Some bytes) = length bytes ≤ 128

-- a kept change of this version fits its table, which is tracked with a minimum below the version
pub record ChangeFits (version : ℕ) (change : Change) (table : Table) : Type 0 where
  pub above : is_above version table.tracked ≡ true
  pub key : KeyFits table.schema change.key
  pub mask : MaskFits table change.op change.mask
  pub context : ContextFits change.context

-- a kept change's table is there, and the change fits it
abbrev pub IsChangeValid : List Table → ℕ → Change → Type 0
IsChangeValid tables version change = IsSomeAnd (table_of tables change.table) (ChangeFits version change)

-- a kept commit is above the least minimum of a tracked table; its version, transaction number and time are at most the
-- database's
pub record IsKeptValid (db : Db) (kept : Kept) : Type 0 where
  pub stays : commit_stays db.tables kept ≡ true
  pub version : kept.version ≤ db.version
  pub xdes : kept.xdes ≤ db.last_xdes
  pub time : kept.time ≤ db.time
  pub changes : AllByRecursion (IsChangeValid db.tables kept.version) kept.changes

-- a kept commit comes before a later one by version and not after it by time, and is another transaction
pub record ComesBefore (kept later : Kept) : Type 0 where
  pub version : kept.version < later.version
  pub time : kept.time ≤ later.time
  pub xdes : kept.xdes ≢ later.xdes

-- a valid database: version, time and transaction numbers are at most 2^62; the tables are numbered from 1 on, at most
-- 256, with different names; and all its parts are valid
pub record IsValid (db : Db) : Type 0 where
  pub version : db.version ≤ 2 ^ 62
  pub time : db.time ≤ 2 ^ 62
  pub last_xdes : db.last_xdes ≤ 2 ^ 62
  pub keep : IsKeepValid db.keep
  pub few : length db.tables ≤ 256
  pub numbered : AreNumbered 1 db.tables
  pub names : EachToLater (λ a b. a ≢ b) (map (λ table. folded table.schema.name) db.tables)
  pub tables : AllByRecursion (IsTableValid db.version db.keep) db.tables
  pub kept : AllByRecursion (IsKeptValid db) db.kept
  pub ordered : EachToLater ComesBefore db.kept
