-- A row that can be stored in a table can be stored in it for ever: no entry changes what a table is by its definition.
use Rattle.std.proofs.Common.{◌≡◌, ℕ, ◌==◌, Bool, true, false, cond, List, [], ◌∷◌, ◌++◌, map, fold, take, drop, take-append-drop, Option, None, Some, refl, sym, ap, subst, ◌∙◌}
use Rattle.std.specs.List.{AllByRecursion}
use Rattle.std.specs.Option.{IfSome, IsSomeAnd}
use Rattle.ct_types.specs.declared.entry.Act.{Act}
use Rattle.ct_types.specs.declared.entry.Act.TheVariants.{Commit, Define, Truncate, Enable, Disable, Database, Raise}
use Rattle.ct_types.specs.declared.entry.Entry.{Entry}
use Rattle.ct_types.specs.declared.entry.Min.{Min}
use Rattle.ct_types.specs.declared.entry.Write.{Write}
use Rattle.ct_types.specs.declared.schema.Schema.{Schema}
use Rattle.ct_model.specs.declared.db.Db.{Db}
use Rattle.ct_model.specs.declared.db.Table.{Table}
use Rattle.ct_model.specs.Apply.{apply, raised, replay, tables_after, tracked_as, truncated, written}
use Rattle.ct_model.specs.Tables.{table_of}
use Rattle.ct_model.proofs.Members.{all_weaken}
use Rattle.ct_database.specs.Storable.{IsRowStorable, IsWriteStorable}
use Rattle.ct_database.specs.Waiting.{AreStoredIn, IsStoredIn}
use Rattle.ct_types.specs.declared.reply.Reply.TheVariants.{Done}
use Rattle.ct_core.specs.Range.{CommitIsKept}
use Rattle.ct_core.proofs.Narrow.{raised_keeps, tracked_keeps, truncated_keeps, written_keeps}

-- ---- tables that keep their definitions

module _ (write : Write) where
  abbrev Fits : Schema → Type 0
  Fits schema = IsRowStorable schema write.key write.row

  at_first : (test : Bool) (table other : Table) (rest more : Option Table) → other.schema ≡ table.schema
      → (IsSomeAnd rest (λ it. Fits it.schema) → IsSomeAnd more (λ it. Fits it.schema))
      → IsSomeAnd (cond test (Some table) rest) (λ it. Fits it.schema) → IsSomeAnd (cond test (Some other) more) (λ it. Fits it.schema)
  at_first true table other rest more same later here = subst Fits (sym same) here
  at_first false table other rest more same later here = later here

  mapped_keeps : (f : Table → Table) → ((table : Table) → (f table).schema ≡ table.schema) → (tables : List Table) → IsStoredIn tables write → IsStoredIn (map f tables) write
  mapped_keeps f keeps [] here = here
  mapped_keeps f keeps (table ∷ tables) here =
      subst (λ (schema : Schema). IsSomeAnd (cond (schema.id == write.table) (Some (f table)) (table_of (map f tables) write.table)) (λ it. Fits it.schema)) (sym (keeps table))
      (at_first (table.schema.id == write.table) table (f table) (table_of tables write.table) (table_of (map f tables) write.table) (keeps table) (mapped_keeps f keeps tables) here)

  mapped_had : (f : Table → Table) → ((table : Table) → (f table).schema ≡ table.schema) → (tables : List Table) → IsStoredIn (map f tables) write → IsStoredIn tables write
  mapped_had f keeps [] here = here
  mapped_had f keeps (table ∷ tables) here =
      at_first (table.schema.id == write.table) (f table) table (table_of (map f tables) write.table) (table_of tables write.table) (sym (keeps table)) (mapped_had f keeps tables)
      (subst (λ (schema : Schema). IsSomeAnd (cond (schema.id == write.table) (Some (f table)) (table_of (map f tables) write.table)) (λ it. Fits it.schema)) (keeps table) here)

  more_keeps : (tables more : List Table) → IsStoredIn tables write → IsStoredIn (tables ++ more) write
  more_keeps [] more here = absurd here
  more_keeps (table ∷ tables) more here =
      at_first (table.schema.id == write.table) table table (table_of tables write.table) (table_of (tables ++ more) write.table) refl (more_keeps tables more) here

  -- ---- writes

  written_stays : (writes : List Write) (tables : List Table) → IsStoredIn tables write → IsStoredIn (fold (λ before one. map (written one) before) tables writes) write
  written_stays [] tables here = here
  written_stays (one ∷ writes) tables here = written_stays writes (map (written one) tables) (mapped_keeps (written one) (written_keeps one) tables here)

  written_was : (writes : List Write) (tables : List Table) → IsStoredIn (fold (λ before one. map (written one) before) tables writes) write → IsStoredIn tables write
  written_was [] tables here = here
  written_was (one ∷ writes) tables here = mapped_had (written one) (written_keeps one) tables (written_was writes (map (written one) tables) here)

  raised_stays : (minima : List Min) (tables : List Table) → IsStoredIn tables write → IsStoredIn (fold (λ before listed. map (raised listed) before) tables minima) write
  raised_stays [] tables here = here
  raised_stays (listed ∷ minima) tables here = raised_stays minima (map (raised listed) tables) (mapped_keeps (raised listed) (raised_keeps listed) tables here)

  -- ---- acts and entries

  acted_stays : (act : Act) (version : ℕ) (draws : Bool) (tables : List Table) → IsStoredIn tables write → IsStoredIn (tables_after act version draws tables) write
  acted_stays (Commit writes) version draws tables here = written_stays writes tables here
  acted_stays (Define schema) version draws tables here = more_keeps tables _ here
  acted_stays (Truncate id) version draws tables here = mapped_keeps (truncated id version draws) (truncated_keeps id version draws) tables here
  acted_stays (Enable id masks) version draws tables here = mapped_keeps (tracked_as id _) (tracked_keeps id _) tables here
  acted_stays (Disable id) version draws tables here = mapped_keeps (tracked_as id None) (tracked_keeps id None) tables here
  acted_stays (Database keep) version draws tables here = here
  acted_stays (Raise minima) version draws tables here = raised_stays minima tables here

  entry_stays : (db : Db) (entry : Entry) → IsStoredIn db.tables write → IsStoredIn (apply db entry).tables write
  unfolding apply
  entry_stays db entry here = acted_stays entry.act entry.version entry.draws db.tables here

  entries_stay : (db : Db) (entries : List Entry) → IsStoredIn db.tables write → IsStoredIn (replay db entries).tables write
  entries_stay db [] here = here
  entries_stay db (entry ∷ entries) here = entries_stay (apply db entry) entries (entry_stays db entry here)

pub replayed : (db : Db) (entries more : List Entry) → replay db (entries ++ more) ≡ replay (replay db entries) more
replayed db [] more = refl
replayed db (entry ∷ entries) more = replayed (apply db entry) entries more

-- ---- all of some writes

-- after an entry
pub stored_after : (db : Db) (entry : Entry) (writes : List Write) → AreStoredIn db.tables writes → AreStoredIn (apply db entry).tables writes
stored_after db entry writes = all_weaken (IsStoredIn db.tables) (IsStoredIn (apply db entry).tables) (λ write here. entry_stays write db entry here) writes

-- in the newest database, what can be stored in an earlier one with some writes
pub stored_newest : (first : Db) (past : List Entry) (at version : ℕ) (put writes : List Write)
    → AreStoredIn (tables_after (Commit put) version false (replay first (take at past)).tables) writes → AreStoredIn (replay first past).tables writes
stored_newest first past at version put writes =
    all_weaken (IsStoredIn (tables_after (Commit put) version false (replay first (take at past)).tables)) (IsStoredIn (replay first past).tables)
    (λ write here.
    subst (λ (db : Db). IsStoredIn db.tables write) (sym (replayed first (take at past) (drop at past)) ∙ ap (replay first) (take-append-drop at past))
    (entries_stay write (replay first (take at past)) (drop at past) (written_was write put (replay first (take at past)).tables here)))
    writes

-- what is stored together
pub stored_both : (tables : List Table) (writes more : List Write) → AreStoredIn tables writes → AreStoredIn tables more → AreStoredIn tables (writes ++ more)
stored_both tables [] more front back = back
stored_both tables (write ∷ writes) more front back = (front.0, stored_both tables writes more front.1 back)

-- ---- what can be stored is storable

storable_one : (found : Option Table) (write : Write) → IsSomeAnd found (λ it. IsRowStorable it.schema write.key write.row) → IfSome found (λ it. IsRowStorable it.schema write.key write.row)
storable_one None write here = tt
storable_one (Some table) write here = here

all_storable_in : (tables : List Table) (writes : List Write) → AreStoredIn tables writes → AllByRecursion (IsWriteStorable tables) writes
all_storable_in tables = all_weaken (IsStoredIn tables) (IsWriteStorable tables) (λ write here. storable_one (table_of tables write.table) write here)

pub commit_kept : (db : Db) (writes : List Write) → AreStoredIn db.tables writes → CommitIsKept db (Commit writes) Done
commit_kept db writes stored = record { kept = record { narrow = tt; storable = all_storable_in db.tables writes stored }; told = refl }
