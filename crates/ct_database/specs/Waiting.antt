-- Writes that wait for their commit, of which a share of a database has the rows. This project's own.
use Rattle.std.specs.Prelude.{List}
use Rattle.std.specs.List.{AllByRecursion}
use Rattle.std.specs.Option.{IsSomeAnd}
use Rattle.ct_types.specs.declared.entry.Write.{Write}
use Rattle.ct_model.specs.declared.db.Table.{Table}
use Rattle.ct_model.specs.Tables.{table_of}
use Rattle.ct_database.specs.Storable.{IsRowStorable}

-- the table of a write is there, and its row can be stored in it
abbrev pub IsStoredIn : List Table → Write → Type 0
IsStoredIn tables write = IsSomeAnd (table_of tables write.table) (λ table. IsRowStorable table.schema write.key write.row)

-- so it is of each of these
abbrev pub AreStoredIn : List Table → List Write → Type 0
AreStoredIn tables = AllByRecursion (IsStoredIn tables)
