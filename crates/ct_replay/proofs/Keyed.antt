-- Entries with the keys of their rows, and without them.
use Rattle.std.proofs.Common.{◌≡◌, ℕ, Bool, true, false, cond, ◌==◌, eqb, find, List, [], ◌∷◌, map, Option, Some, None, refl, sym, ◌∙◌, ap}
use Rattle.std.specs.Option.{IsSomeAnd}
use Rattle.std.specs.List.{AllByRecursion}
use Rattle.ct_types.specs.declared.value.Key.{Key}
use Rattle.ct_types.specs.declared.value.Row.{Row}
use Rattle.ct_types.specs.declared.schema.Schema.{Schema}
use Rattle.ct_types.specs.declared.entry.Op.{Op}
use Rattle.ct_types.specs.declared.entry.Op.TheVariants.{Insert, Update, Delete}
use Rattle.ct_types.specs.declared.entry.Write.{Write}
use Rattle.ct_types.specs.declared.entry.Act.{Act}
use Rattle.ct_types.specs.declared.entry.Act.TheVariants.{Commit, Define, Truncate, Enable, Disable, Database, Raise}
use Rattle.ct_types.specs.declared.entry.Entry.{Entry}
use Rattle.ct_model.specs.declared.db.Table.{Table}
use Rattle.ct_model.specs.declared.db.Db.{Db}
use Rattle.ct_model.specs.Tables.{key_of, table_of, rows_with}
use Rattle.ct_model.specs.Apply.{written}
use Rattle.ct_model.specs.Applies.{RowIsOf, WriteFits, WritesApply, ActApplies, Applies}
use Rattle.ct_codec.specs.Spellings.{bare_key, bare_write, bare_act, bare, TargetFits, WriteFits as WriteCanBeSpelled, ActFits, EntryFits}
use Rattle.ct_codec.specs.EntryReaders.{entry_of}
use Rattle.ct_codec.proofs.Combined.{law_exact}
use Rattle.ct_codec.proofs.EntryLaws.{law_entry}
use Rattle.ct_replay.specs.Keys.{key_by, keyed_write, keyed_act, keyed}
use Rattle.ct_replay.specs.Replay.{Adds}

-- ---- what was read has no keys beside rows

bare_key_again : (op : Op) (key : Key) (row : Option Row) → TargetFits op key row → bare_key key row ≡ key
bare_key_again op key None fits = refl
bare_key_again op key (Some row) fits = λ i. record { 0 = sym fits.1 i }

bare_writes_again : (writes : List Write) → AllByRecursion WriteCanBeSpelled writes → map bare_write writes ≡ writes
bare_writes_again [] fits = refl
bare_writes_again (write ∷ writes) fits =
    let key = bare_key_again write.op write.key write.row fits.0.1 in
    let rest = bare_writes_again writes fits.1 in
    λ i. record write { key = key i } ∷ rest i

bare_act_again : (act : Act) → ActFits act → bare_act act ≡ act
bare_act_again (Commit writes) fits = ap Commit (bare_writes_again writes fits.1)
bare_act_again (Define schema) fits = refl
bare_act_again (Truncate id) fits = refl
bare_act_again (Enable id masks) fits = refl
bare_act_again (Disable id) fits = refl
bare_act_again (Database keep) fits = refl
bare_act_again (Raise minima) fits = refl

bare_again : (e : Entry) → EntryFits e → bare e ≡ e
bare_again e fits = λ i. record e { act = bare_act_again e.act fits.3 i }

-- ---- keys that are set and left out

bare_keyed_key : (table : Option Table) (key : Key) (row : Option Row) → bare_key (key_by table key row) row ≡ bare_key key row
bare_keyed_key None key row = refl
bare_keyed_key (Some table) key None = refl
bare_keyed_key (Some table) key (Some row) = refl

bare_keyed_writes : (tables : List Table) (writes : List Write) → map bare_write (map (keyed_write tables) writes) ≡ map bare_write writes
bare_keyed_writes tables [] = refl
bare_keyed_writes tables (write ∷ writes) =
    λ i. record write { key = bare_keyed_key (table_of tables write.table) write.key write.row i } ∷ bare_keyed_writes tables writes i

bare_keyed_act : (tables : List Table) (act : Act) → bare_act (keyed_act tables act) ≡ bare_act act
bare_keyed_act tables (Commit writes) = ap Commit (bare_keyed_writes tables writes)
bare_keyed_act tables (Define schema) = refl
bare_keyed_act tables (Truncate id) = refl
bare_keyed_act tables (Enable id masks) = refl
bare_keyed_act tables (Disable id) = refl
bare_keyed_act tables (Database keep) = refl
bare_keyed_act tables (Raise minima) = refl

bare_keyed : (tables : List Table) (e : Entry) → bare (keyed tables e) ≡ bare e
bare_keyed tables e = λ i. record { version = e.version; draws = e.draws; xdes = e.xdes; time = e.time; act = bare_keyed_act tables e.act i }

-- ---- keys that are left out and set again

-- the schema of a table, if it is there
abbrev schema_of : Option Table → Option Schema
schema_of None = None
schema_of (Some table) = Some table.schema

-- by a schema alone
abbrev key_from : Option Schema → Key → Option Row → Key
key_from None key row = key
key_from (Some schema) key None = key
key_from (Some schema) key (Some row) = key_of schema row

key_by_schema : (table : Option Table) (key : Key) (row : Option Row) → key_by table key row ≡ key_from (schema_of table) key row
key_by_schema None key row = refl
key_by_schema (Some table) key None = refl
key_by_schema (Some table) key (Some row) = refl

abbrev schemas : List Table → List Schema
schemas tables = map (λ table. table.schema) tables

-- a table is found by the schemas
by_schemas : (tables : List Table) (id : ℕ) → schema_of (table_of tables id) ≡ find (λ schema. schema.id == id) (schemas tables)
by_schemas [] id = refl
by_schemas (table ∷ tables) id =
    let step : (b : Bool) → schema_of (cond b (Some table) (table_of tables id)) ≡ cond b (Some table.schema) (find (λ schema. schema.id == id) (schemas tables)) =
    elim [ true ↦ refl | false ↦ by_schemas tables id ] in
    step (eqb table.schema.id id)

-- a write leaves the schemas
schemas_written : (write : Write) (tables : List Table) → schemas (map (written write) tables) ≡ schemas tables
schemas_written write [] = refl
schemas_written write (table ∷ tables) = λ i. schema_written i ∷ schemas_written write tables i
  where
    schema_written : (written write table).schema ≡ table.schema
    schema_written =
        let step : (b : Bool) → (cond b (record table { rows = rows_with table.schema table.rows write.key write.row }) table).schema ≡ table.schema =
        elim [ true ↦ refl | false ↦ refl ] in
        step (eqb table.schema.id write.table)

-- a write that fits its table has the key of its row
key_again : (schema : Schema) (op : Op) (key : Key) (row : Option Row) → RowIsOf schema op key row → key_from (Some schema) (bare_key key row) row ≡ key
key_again schema op key None is = refl
key_again schema Insert key (Some row) is = is.1
key_again schema Update key (Some row) is = is.1
key_again schema Delete key (Some row) is = absurd is

key_again_in : (found : Option Table) (write : Write) → IsSomeAnd found (WriteFits write) → key_from (schema_of found) (bare_key write.key write.row) write.row ≡ write.key
key_again_in None write fits = absurd fits
key_again_in (Some table) write fits = key_again table.schema write.op write.key write.row fits.row

write_again : (tables after : List Table) (write : Write) → schemas after ≡ schemas tables → IsSomeAnd (table_of after write.table) (WriteFits write)
    → key_by (table_of tables write.table) (bare_key write.key write.row) write.row ≡ write.key
write_again tables after write same fits =
    key_by_schema (table_of tables write.table) (bare_key write.key write.row) write.row
    ∙ ap (λ schema. key_from schema (bare_key write.key write.row) write.row)
    (by_schemas tables write.table ∙ ap (λ l. find (λ schema. schema.id == write.table) l) (sym same) ∙ sym (by_schemas after write.table))
    ∙ key_again_in (table_of after write.table) write fits

writes_again : (tables after : List Table) (writes : List Write) → schemas after ≡ schemas tables → WritesApply after writes → map (keyed_write tables) (map bare_write writes) ≡ writes
writes_again tables after [] same applies = refl
writes_again tables after (write ∷ writes) same applies =
    let key = write_again tables after write same applies.0 in
    let rest = writes_again tables (map (written write) after) writes (schemas_written write after ∙ same) applies.1 in
    λ i. record write { key = key i } ∷ rest i

act_again : (db : Db) (version : ℕ) (draws : Bool) (act : Act) → ActApplies db version draws act → keyed_act db.tables (bare_act act) ≡ act
act_again db version draws (Commit writes) applies = ap Commit (writes_again db.tables db.tables writes refl applies.1)
act_again db version draws (Define schema) applies = refl
act_again db version draws (Truncate id) applies = refl
act_again db version draws (Enable id masks) applies = refl
act_again db version draws (Disable id) applies = refl
act_again db version draws (Database keep) applies = refl
act_again db version draws (Raise minima) applies = refl

keyed_bare : (db : Db) (e : Entry) → Applies db e → keyed db.tables (bare e) ≡ e
keyed_bare db e applies = λ i. record e { act = act_again db e.version e.draws e.act applies.act i }

-- ---- the entry that a payload adds

-- what a payload spells, with its keys, is added where it applies
pub adds_keyed : (db : Db) (payload : List ℕ) (spelled e : Entry) → entry_of payload ≡ Some spelled → e ≡ keyed db.tables spelled → Applies db e → Adds db payload e
adds_keyed db payload spelled e is keys applies =
    let fits : EntryFits spelled = ((law_exact law_entry payload spelled).0 is).1 in
    record {
      spells = is ∙ ap (λ o. Some o) (sym (ap bare keys ∙ bare_keyed db.tables spelled ∙ bare_again spelled fits));
      applies = applies;
    }

-- no other is
pub adds_no_other : (db : Db) (payload : List ℕ) (spelled e : Entry) → entry_of payload ≡ Some spelled → Adds db payload e → e ≡ keyed db.tables spelled
adds_no_other db payload spelled e is adds =
    let same : bare e ≡ spelled = cc (adds.spells, is) in
    sym (keyed_bare db e adds.applies) ∙ ap (λ b. keyed db.tables b) same
