-- What a SNAPSHOT transaction may not write: a table or a key that another transaction changed after its view. T-SQL: 3960. That a
-- definition, TRUNCATE, ENABLE or DISABLE of the table counts too, and which transaction is named, is this project's own.
use Rattle.std.specs.Prelude.{ℕ, ◌==◌, ◌&&◌, Bool, false, List, [], ◌∷◌, Option, None, Some, if◌then◌else◌}
use Rattle.std.specs.List.{list_any}
use Rattle.std.specs.Option.{option_or}
use Rattle.std.specs.Ordering.{is_eq}
use Rattle.ct_types.specs.Order.{key_cmp}
use Rattle.ct_types.specs.declared.entry.Act.{Act}
use Rattle.ct_types.specs.declared.entry.Act.TheVariants.{Commit, Define, Truncate, Enable, Disable, Database, Raise}
use Rattle.ct_types.specs.declared.entry.Entry.{Entry}
use Rattle.ct_types.specs.declared.entry.Write.{Write}
use Rattle.ct_types.specs.declared.value.Key.{Key}

-- a write names a key of a table
abbrev pub is_on : ℕ → Key → Write → Bool
is_on table key write = write.table == table && is_eq (key_cmp write.key key)

-- an act is a definition, TRUNCATE, ENABLE or DISABLE of a table
abbrev pub alters : ℕ → Act → Bool
alters table (Define schema) = schema.id == table
alters table (Truncate id) = id == table
alters table (Enable id masks) = id == table
alters table (Disable id) = id == table
alters table (Commit writes) = false
alters table (Database keep) = false
alters table (Raise minima) = false

-- an act writes a row of a table at a key
abbrev pub writes_key : ℕ → Key → Act → Bool
writes_key table key (Commit writes) = list_any (is_on table key) writes
writes_key table key (Define schema) = false
writes_key table key (Truncate id) = false
writes_key table key (Enable id masks) = false
writes_key table key (Disable id) = false
writes_key table key (Database keep) = false
writes_key table key (Raise minima) = false

-- the number of the last transaction whose act passes a test, behind what was found so far
abbrev pub last_number : (Act → Bool) → Option ℕ → List Entry → Option ℕ
last_number test found [] = found
last_number test found (entry ∷ more) = last_number test (if test entry.act then Some entry.xdes else found) more

-- of the first of the keys of these writes that an entry wrote, the last transaction that did
abbrev pub conflicting_keys : List Entry → List Write → Option ℕ
conflicting_keys later [] = None
conflicting_keys later (write ∷ more) = option_or (last_number (writes_key write.table write.key) None later) (conflicting_keys later more)

-- of a table that an entry altered, the last transaction that did; else of the keys; a statement without a row conflicts with none
abbrev pub conflicting : List Entry → ℕ → List Write → Option ℕ
conflicting later table [] = None
conflicting later table (write ∷ more) = option_or (last_number (alters table) None later) (conflicting_keys later (write ∷ more))
