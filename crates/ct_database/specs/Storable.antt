-- What a database in memory asks of the entries that it is given. This project's own.
use Rattle.std.specs.Prelude.{◌≡◌, ◌+◌, ◌<◌, ◌≤◌, List, length, Option, None, Some, MatchBool}
use Rattle.std.specs.List.{AllByRecursion}
use Rattle.std.specs.Option.{IfSome}
use Rattle.ct_types.specs.declared.value.Key.{Key}
use Rattle.ct_types.specs.declared.value.Row.{Row}
use Rattle.ct_types.specs.declared.schema.Schema.{Schema}
use Rattle.ct_types.specs.declared.entry.Min.{Min}
use Rattle.ct_types.specs.declared.entry.Write.{Write}
use Rattle.ct_types.specs.declared.entry.Act.{Act}
use Rattle.ct_types.specs.declared.entry.Act.TheVariants.{Commit, Define, Truncate, Enable, Disable, Database, Raise}
use Rattle.ct_types.specs.declared.entry.Entry.{Entry}
use Rattle.ct_model.specs.declared.db.Table.{Table}
use Rattle.ct_model.specs.declared.db.Db.{Db}
use Rattle.ct_model.specs.Tables.{key_of, table_of}
use Rattle.ct_source.specs.Rows.{HasKeyColumns, IsWhole}

-- a row has a value for each column, and the key of its write
abbrev pub IsRowStorable : Schema → Key → Option Row → Type 0
IsRowStorable schema key None = Unit {0}
IsRowStorable schema key (Some row) = IsWhole schema row × (key_of schema row ≡ key)

-- so it is of a write whose table is there
abbrev pub IsWriteStorable : List Table → Write → Type 0
IsWriteStorable tables write = IfSome (table_of tables write.table) (λ table. IsRowStorable table.schema write.key write.row)

-- a defined table has the next id, and the ids of its key are columns
abbrev pub IsSchemaStorable : List Table → Schema → Type 0
IsSchemaStorable tables schema = (schema.id ≡ length tables + 1) × HasKeyColumns schema

-- a listed minimum is not below that of its table, where that is there and tracked
abbrev pub IsMinStorable : List Table → Min → Type 0
IsMinStorable tables listed = IfSome (table_of tables listed.table) (λ table. IfSome table.tracked (λ tracked. tracked.min ≤ listed.min))

abbrev pub IsActStorable : List Table → Act → Type 0
IsActStorable tables (Commit writes) = AllByRecursion (IsWriteStorable tables) writes
IsActStorable tables (Define schema) = IsSchemaStorable tables schema
IsActStorable tables (Truncate id) = Unit {0}
IsActStorable tables (Enable id masks) = Unit {0}
IsActStorable tables (Disable id) = Unit {0}
IsActStorable tables (Database keep) = Unit {0}
IsActStorable tables (Raise minima) = AllByRecursion (IsMinStorable tables) minima

-- an entry that draws has a version above the database's, one that does not has no lesser one
pub record IsStorable (db : Db) (entry : Entry) : Type 0 where
  pub act : IsActStorable db.tables entry.act
  pub version : MatchBool entry.draws (db.version < entry.version) (db.version ≤ entry.version)
