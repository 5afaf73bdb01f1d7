-- When an entry applies to a database. This project's own.
use Rattle.std.specs.Prelude.{◌≡◌, ◌≢◌, ℕ, ◌+◌, ◌^◌, ◌≤◌, ◌<◌, Bool, true, false, List, [], ◌∷◌, length, map, Option, None, Some, IsSome, is_some, if◌then◌else◌}
use Rattle.std.specs.List.{AllByRecursion, list_any}
use Rattle.std.specs.Option.{IsSomeAnd}
use Rattle.ct_types.specs.declared.value.Key.{Key}
use Rattle.ct_types.specs.declared.value.Row.{Row}
use Rattle.ct_types.specs.declared.schema.Schema.{Schema}
use Rattle.ct_types.specs.declared.tracked.Tracked.{Tracked}
use Rattle.ct_types.specs.declared.entry.Op.{Op}
use Rattle.ct_types.specs.declared.entry.Op.TheVariants.{Insert, Update, Delete}
use Rattle.ct_types.specs.declared.entry.Min.{Min}
use Rattle.ct_types.specs.declared.entry.Write.{Write}
use Rattle.ct_types.specs.declared.entry.Act.{Act}
use Rattle.ct_types.specs.declared.entry.Act.TheVariants.{Commit, Define, Truncate, Enable, Disable, Database, Raise}
use Rattle.ct_types.specs.declared.entry.Entry.{Entry}
use Rattle.ct_model.specs.declared.db.Table.{Table}
use Rattle.ct_model.specs.declared.db.Db.{Db}
use Rattle.ct_model.specs.Apply.{apply, written}
use Rattle.ct_model.specs.Lists.{EachToLater}
use Rattle.ct_model.specs.Names.{folded}
use Rattle.ct_model.specs.Schemas.{IsSchema, RowFits}
use Rattle.ct_model.specs.Tables.{key_of, has_row, table_of}
use Rattle.ct_model.specs.Valid.{IsRetention, MaskFits, ContextFits}

-- an insert's key is absent before it, an update's and a delete's is present
abbrev pub is_present_before : Op → Bool
is_present_before Insert = false
is_present_before Update = true
is_present_before Delete = true

-- a delete has no row; every other write has a row, which fits the table and has the write's key
abbrev pub RowIsOf : Schema → Op → Key → Option Row → Type 0
RowIsOf schema Delete key None = Unit {0}
RowIsOf schema Delete key (Some row) = ⊥
RowIsOf schema Insert key None = ⊥
RowIsOf schema Insert key (Some row) = RowFits schema row × (key_of schema row ≡ key)
RowIsOf schema Update key None = ⊥
RowIsOf schema Update key (Some row) = RowFits schema row × (key_of schema row ≡ key)

-- a write that is not tracked has no context
abbrev pub ContextIsOf : Bool → Option (List ℕ) → Type 0
ContextIsOf true context = ContextFits context
ContextIsOf false context = context ≡ None

-- a write fits its table as it stands before the write
pub record WriteFits (write : Write) (table : Table) : Type 0 where
  pub present : has_row table.schema table.rows write.key ≡ is_present_before write.op
  pub row : RowIsOf table.schema write.op write.key write.row
  pub tracked : write.tracked ≡ is_some table.tracked
  pub context : ContextIsOf write.tracked write.context
  pub mask : MaskFits table write.op write.mask

-- the writes fit one after the other, each after those before it
abbrev pub WritesApply : List Table → List Write → Type 0
WritesApply tables [] = Unit {0}
WritesApply tables (write ∷ writes) = IsSomeAnd (table_of tables write.table) (WriteFits write) × WritesApply (map (written write) tables) writes

-- a schema that may go last into the tables: its id is the next one, its name is new, and there are fewer than 256 tables
pub record IsNewSchema (tables : List Table) (schema : Schema) : Type 0 where
  pub id : schema.id ≡ length tables + 1
  pub room : length tables < 256
  pub name : AllByRecursion (λ table. folded table.schema.name ≢ folded schema.name) tables
  pub definable : IsSchema schema

-- a minimum is above that of a table, which is tracked
abbrev pub MinRises : ℕ → Option Tracked → Type 0
MinRises min None = ⊥
MinRises min (Some tracked) = tracked.min < min

-- a listed minimum is above that of its table and at most the version
abbrev pub IsRaise : List Table → ℕ → Min → Type 0
IsRaise tables version listed = IsSomeAnd (table_of tables listed.table) (λ table. MinRises listed.min table.tracked) × (listed.min ≤ version)

-- an act applies, in an entry with this version that draws it or not:
-- * a Commit has writes, which fit one after the other, and draws exactly where one of them is tracked;
-- * a Define has a new schema, and does not draw;
-- * a Truncate's table is there, and it draws exactly where that is tracked;
-- * an Enable's table is there and not tracked, the database is on, and it draws;
-- * a Disable's table is tracked, and it does not draw;
-- * a Database sets a retention that is one, or goes off where it is on and no table is tracked; it does not draw;
-- * a Raise lists tables, each once and by rising table, and does not draw.
abbrev pub ActApplies : Db → ℕ → Bool → Act → Type 0
ActApplies db version draws (Commit writes) =
    (0 < length writes) × WritesApply db.tables writes × (draws ≡ list_any (λ write. write.tracked) writes)
ActApplies db version draws (Define schema) = IsNewSchema db.tables schema × (draws ≡ false)
ActApplies db version draws (Truncate id) = IsSomeAnd (table_of db.tables id) (λ table. draws ≡ is_some table.tracked)
ActApplies db version draws (Enable id masks) =
    IsSome db.keep × IsSomeAnd (table_of db.tables id) (λ table. table.tracked ≡ None) × (draws ≡ true)
ActApplies db version draws (Disable id) = IsSomeAnd (table_of db.tables id) (λ table. IsSome table.tracked) × (draws ≡ false)
ActApplies db version draws (Database (Some keep)) = IsRetention keep.retention × (draws ≡ false)
ActApplies db version draws (Database None) = IsSome db.keep × AllByRecursion (λ table. table.tracked ≡ None) db.tables × (draws ≡ false)
ActApplies db version draws (Raise minima) =
    (0 < length minima) × EachToLater (λ a b. a.table < b.table) minima × AllByRecursion (IsRaise db.tables version) minima × (draws ≡ false)

-- a transaction number from 1 to 2^62 that no kept commit has
abbrev pub IsNewXdes : Db → ℕ → Type 0
IsNewXdes db xdes = (1 ≤ xdes) × (xdes ≤ 2 ^ 62) × AllByRecursion (λ kept. kept.xdes ≢ xdes) db.kept

-- a Raise has transaction number 0, every other act one that no kept commit has
abbrev pub XdesApplies : Db → Act → ℕ → Type 0
XdesApplies db (Raise minima) xdes = xdes ≡ 0
XdesApplies db (Commit writes) xdes = IsNewXdes db xdes
XdesApplies db (Define schema) xdes = IsNewXdes db xdes
XdesApplies db (Truncate id) xdes = IsNewXdes db xdes
XdesApplies db (Enable id masks) xdes = IsNewXdes db xdes
XdesApplies db (Disable id) xdes = IsNewXdes db xdes
XdesApplies db (Database keep) xdes = IsNewXdes db xdes

-- an entry applies: its version is the database's, plus 1 where it draws, its time is not before the database's, and
-- both are at most 2^62; its transaction number is one that it may have, and its act applies
pub record Applies (db : Db) (entry : Entry) : Type 0 where
  pub version : entry.version ≡ (if entry.draws then db.version + 1 else db.version)
  pub version_within : entry.version ≤ 2 ^ 62
  pub time : db.time ≤ entry.time
  pub time_within : entry.time ≤ 2 ^ 62
  pub xdes : XdesApplies db entry.act entry.xdes
  pub act : ActApplies db entry.version entry.draws entry.act

-- entries apply in turn: each to what those before it made
abbrev pub ApplyInTurn : Db → List Entry → Type 0
ApplyInTurn db [] = Unit {0}
ApplyInTurn db (entry ∷ entries) = Applies db entry × ApplyInTurn (apply db entry) entries
