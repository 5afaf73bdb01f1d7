-- The keys that the writes of an entry have by their rows, which its spelling leaves out. This project's own.
use Rattle.std.specs.Prelude.{List, map, Option, None, Some}
use Rattle.ct_types.specs.declared.value.Key.{Key}
use Rattle.ct_types.specs.declared.value.Row.{Row}
use Rattle.ct_types.specs.declared.entry.Write.{Write}
use Rattle.ct_types.specs.declared.entry.Act.{Act}
use Rattle.ct_types.specs.declared.entry.Act.TheVariants.{Commit, Define, Truncate, Enable, Disable, Database, Raise}
use Rattle.ct_types.specs.declared.entry.Entry.{Entry}
use Rattle.ct_model.specs.declared.db.Table.{Table}
use Rattle.ct_model.specs.Tables.{key_of, table_of}

-- a row's key, in a table that is there; a write without a row has its own
abbrev pub key_by : Option Table → Key → Option Row → Key
key_by None key row = key
key_by (Some table) key None = key
key_by (Some table) key (Some row) = key_of table.schema row

-- a write with the key that its row has in its table
abbrev pub keyed_write : List Table → Write → Write
keyed_write tables write = record write { key = key_by (table_of tables write.table) write.key write.row }

-- the writes of a commit so; every other act has none
abbrev pub keyed_act : List Table → Act → Act
keyed_act tables (Commit writes) = Commit (map (keyed_write tables) writes)
keyed_act tables (Define schema) = Define schema
keyed_act tables (Truncate id) = Truncate id
keyed_act tables (Enable id masks) = Enable id masks
keyed_act tables (Disable id) = Disable id
keyed_act tables (Database keep) = Database keep
keyed_act tables (Raise minima) = Raise minima

-- an entry with the keys that its rows have in these tables
abbrev pub keyed : List Table → Entry → Entry
keyed tables entry = record entry { act = keyed_act tables entry.act }
