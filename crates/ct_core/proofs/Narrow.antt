-- No table gets more than 64 columns, and the ids of the tables go on counting from 1.
use Rattle.std.proofs.Common.{◌≡◌, ℕ, ◌+◌, ◌≤◌, ◌==◌, Bool, true, false, cond, List, [], ◌∷◌, ◌++◌, map, fold, length, Option, None, Some, refl, arith}
use Rattle.ct_types.specs.declared.entry.Act.{Act}
use Rattle.ct_types.specs.declared.entry.Act.TheVariants.{Commit, Define, Truncate, Enable, Disable, Database, Raise}
use Rattle.ct_types.specs.declared.entry.Entry.{Entry}
use Rattle.ct_types.specs.declared.entry.Min.{Min}
use Rattle.ct_types.specs.declared.entry.Write.{Write}
use Rattle.ct_types.specs.declared.schema.Schema.{Schema}
use Rattle.ct_types.specs.declared.tracked.Tracked.{Tracked}
use Rattle.ct_model.specs.declared.db.Db.{Db}
use Rattle.ct_model.specs.declared.db.Table.{Table}
use Rattle.ct_model.specs.Apply.{apply, tables_after, written, tracked_as, truncated, raised}
use Rattle.ct_model.specs.Tables.{catalogued}
use Rattle.ct_bind.specs.Limits.{HaveFewColumns}
use Rattle.ct_model.specs.Valid.{AreNumbered}
use Rattle.ct_database.specs.Storable.{IsActStorable}
use Rattle.ct_core.specs.Range.{HasTables, ActIsKept, ActIsNarrow}

abbrev AreNarrow : List Table → Type 0
AreNarrow tables = HaveFewColumns (map catalogued tables)

-- ---- a change of a table that leaves its definition

chosen : (b : Bool) (changed table : Table) → changed.schema ≡ table.schema → (cond b changed table).schema ≡ table.schema
chosen true changed table e = e
chosen false changed table e = refl

mapped : (f : Table → Table) → ((table : Table) → (f table).schema ≡ table.schema) → (tables : List Table) → AreNarrow tables → AreNarrow (map f tables)
mapped f keeps [] narrow = tt
mapped f keeps (table ∷ tables) narrow = (rw (keeps table) narrow.0, mapped f keeps tables narrow.1)

renumbered : (f : Table → Table) → ((table : Table) → (f table).schema ≡ table.schema) → (id : ℕ) (tables : List Table) → AreNumbered id tables → AreNumbered id (map f tables)
renumbered f keeps id [] numbered = tt
renumbered f keeps id (table ∷ tables) numbered = (rw (keeps table) numbered.0, renumbered f keeps (id + 1) tables numbered.1)

pub written_keeps : (write : Write) (table : Table) → (written write table).schema ≡ table.schema
written_keeps write table = chosen (table.schema.id == write.table) _ table refl

pub tracked_keeps : (id : ℕ) (tracked : Option Tracked) (table : Table) → (tracked_as id tracked table).schema ≡ table.schema
tracked_keeps id tracked table = chosen (table.schema.id == id) _ table refl

pub truncated_keeps : (id version : ℕ) (draws : Bool) (table : Table) → (truncated id version draws table).schema ≡ table.schema
truncated_keeps id version draws table = chosen (table.schema.id == id) _ table refl

pub raised_keeps : (listed : Min) (table : Table) → (raised listed table).schema ≡ table.schema
raised_keeps listed table = chosen (table.schema.id == listed.table) _ table refl

-- ---- acts

all_written : (writes : List Write) (tables : List Table) → AreNarrow tables → AreNarrow (fold (λ before write. map (written write) before) tables writes)
all_written [] tables narrow = narrow
all_written (write ∷ writes) tables narrow = all_written writes (map (written write) tables) (mapped (written write) (written_keeps write) tables narrow)

all_raised : (minima : List Min) (tables : List Table) → AreNarrow tables → AreNarrow (fold (λ before listed. map (raised listed) before) tables minima)
all_raised [] tables narrow = narrow
all_raised (listed ∷ minima) tables narrow = all_raised minima (map (raised listed) tables) (mapped (raised listed) (raised_keeps listed) tables narrow)

defined : (schema : Schema) (tables : List Table) → length schema.columns ≤ 64 → AreNarrow tables
    → AreNarrow (tables ++ record { schema = schema; rows = []; tracked = None } ∷ [])
defined schema [] few narrow = (few, tt)
defined schema (table ∷ tables) few narrow = (narrow.0, defined schema tables few narrow.1)

acted : (act : Act) (version : ℕ) (draws : Bool) (tables : List Table) → ActIsNarrow act → AreNarrow tables → AreNarrow (tables_after act version draws tables)
acted (Commit writes) version draws tables few narrow = all_written writes tables narrow
acted (Define schema) version draws tables few narrow = defined schema tables few narrow
acted (Truncate id) version draws tables few narrow = mapped (truncated id version draws) (truncated_keeps id version draws) tables narrow
acted (Enable id masks) version draws tables few narrow = mapped (tracked_as id (Some (record { min = version; masks = masks }))) (tracked_keeps id (Some (record { min = version; masks = masks }))) tables narrow
acted (Disable id) version draws tables few narrow = mapped (tracked_as id None) (tracked_keeps id None) tables narrow
acted (Database keep) version draws tables few narrow = narrow
acted (Raise minima) version draws tables few narrow = all_raised minima tables narrow

-- ---- and the ids

all_written_ids : (writes : List Write) (tables : List Table) → AreNumbered 1 tables → AreNumbered 1 (fold (λ before write. map (written write) before) tables writes)
all_written_ids [] tables numbered = numbered
all_written_ids (write ∷ writes) tables numbered = all_written_ids writes (map (written write) tables) (renumbered (written write) (written_keeps write) 1 tables numbered)

all_raised_ids : (minima : List Min) (tables : List Table) → AreNumbered 1 tables → AreNumbered 1 (fold (λ before listed. map (raised listed) before) tables minima)
all_raised_ids [] tables numbered = numbered
all_raised_ids (listed ∷ minima) tables numbered = all_raised_ids minima (map (raised listed) tables) (renumbered (raised listed) (raised_keeps listed) 1 tables numbered)

defined_id : (schema : Schema) (id : ℕ) (tables : List Table) → schema.id ≡ length tables + id → AreNumbered id tables
    → AreNumbered id (tables ++ record { schema = schema; rows = []; tracked = None } ∷ [])
defined_id schema id [] next numbered = (omega (arith, next), tt)
defined_id schema id (table ∷ tables) next numbered = (numbered.0, defined_id schema (id + 1) tables (omega (arith, next)) numbered.1)

acted_ids : (act : Act) (version : ℕ) (draws : Bool) (tables : List Table) → IsActStorable tables act → AreNumbered 1 tables → AreNumbered 1 (tables_after act version draws tables)
acted_ids (Commit writes) version draws tables storable numbered = all_written_ids writes tables numbered
acted_ids (Define schema) version draws tables storable numbered = defined_id schema 1 tables storable.0 numbered
acted_ids (Truncate id) version draws tables storable numbered = renumbered (truncated id version draws) (truncated_keeps id version draws) 1 tables numbered
acted_ids (Enable id masks) version draws tables storable numbered =
    renumbered (tracked_as id (Some (record { min = version; masks = masks }))) (tracked_keeps id (Some (record { min = version; masks = masks }))) 1 tables numbered
acted_ids (Disable id) version draws tables storable numbered = renumbered (tracked_as id None) (tracked_keeps id None) 1 tables numbered
acted_ids (Database keep) version draws tables storable numbered = numbered
acted_ids (Raise minima) version draws tables storable numbered = all_raised_ids minima tables numbered

pub tables_apply : (db : Db) (entry : Entry) → ActIsKept db entry.act → HasTables db → HasTables (apply db entry)
unfolding apply
tables_apply db entry kept has = record {
  narrow = acted entry.act entry.version entry.draws db.tables kept.narrow has.narrow;
  numbered = acted_ids entry.act entry.version entry.draws db.tables kept.storable has.numbered;
}
