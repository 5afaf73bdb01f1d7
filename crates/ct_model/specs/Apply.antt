-- What one committed entry makes of a database. The entries are this project's own; what they do to the tracking of a table
-- is that of https://learn.microsoft.com/sql/relational-databases/track-changes/manage-change-tracking-sql-server.
use Rattle.std.specs.Prelude.{ℕ, Bool, max, ◌==◌, ◌&&◌, List, [], ◌∷◌, ◌++◌, map, filter, fold, Option, None, Some, if◌then◌else◌}
use Rattle.std.specs.List.{list_any}
use Rattle.ct_types.specs.declared.tracked.Tracked.{Tracked}
use Rattle.ct_types.specs.declared.entry.Keep.{Keep}
use Rattle.ct_types.specs.declared.entry.Min.{Min}
use Rattle.ct_types.specs.declared.entry.Change.{Change}
use Rattle.ct_types.specs.declared.entry.Write.{Write}
use Rattle.ct_types.specs.declared.entry.Kept.{Kept}
use Rattle.ct_types.specs.declared.entry.Act.{Act}
use Rattle.ct_types.specs.declared.entry.Act.TheVariants.{Commit, Define, Truncate, Enable, Disable, Database, Raise}
use Rattle.ct_types.specs.declared.entry.Entry.{Entry}
use Rattle.ct_model.specs.declared.db.Table.{Table}
use Rattle.ct_model.specs.declared.db.Db.{Db}
use Rattle.ct_model.specs.Tables.{rows_with, is_above}

-- a write adds, replaces or removes the row of its key in its table
abbrev pub written : Write → Table → Table
written write table = if table.schema.id == write.table then record table { rows = rows_with table.schema table.rows write.key write.row } else table

-- a table is tracked in this way, or no more
abbrev pub tracked_as : ℕ → Option Tracked → Table → Table
tracked_as id tracked table = if table.schema.id == id then record table { tracked = tracked } else table

-- another minimum, where the table is tracked
abbrev pub with_min : ℕ → Option Tracked → Option Tracked
with_min min None = None
with_min min (Some tracked) = Some (record tracked { min = min })

-- a table loses its rows; where the entry draws, its minimum is the entry's version
abbrev pub truncated : ℕ → ℕ → Bool → Table → Table
truncated id version draws table =
    if table.schema.id == id then record table { rows = []; tracked = if draws then with_min version table.tracked else table.tracked } else table

-- a listed table has the listed minimum
abbrev pub raised : Min → Table → Table
raised listed table = if table.schema.id == listed.table then record table { tracked = with_min listed.min table.tracked } else table

-- the tables after an act of an entry with this version: a defined table goes last, without rows and untracked, and an
-- enabled one has the version as its minimum
abbrev pub tables_after : Act → ℕ → Bool → List Table → List Table
tables_after (Commit writes) version draws tables = fold (λ before write. map (written write) before) tables writes
tables_after (Define schema) version draws tables = tables ++ record { schema = schema; rows = []; tracked = None } ∷ []
tables_after (Truncate id) version draws tables = map (truncated id version draws) tables
tables_after (Enable id masks) version draws tables = map (tracked_as id (Some (record { min = version; masks = masks }))) tables
tables_after (Disable id) version draws tables = map (tracked_as id None) tables
tables_after (Database keep) version draws tables = tables
tables_after (Raise minima) version draws tables = fold (λ before listed. map (raised listed) before) tables minima

-- the settings after an act
abbrev pub keep_after : Act → Option Keep → Option Keep
keep_after (Database now) keep = now
keep_after (Commit writes) keep = keep
keep_after (Define schema) keep = keep
keep_after (Truncate id) keep = keep
keep_after (Enable id masks) keep = keep
keep_after (Disable id) keep = keep
keep_after (Raise minima) keep = keep

-- the change that a tracked write records: all of it but the row
abbrev pub change_of : Write → Change
change_of write = record { table = write.table; key = write.key; op = write.op; mask = write.mask; context = write.context }

-- the tracked writes of a commit, in their order; every other act has no changes
abbrev pub changes_of : Act → List Change
changes_of (Commit writes) = map change_of (filter (λ write. write.tracked) writes)
changes_of (Define schema) = []
changes_of (Truncate id) = []
changes_of (Enable id masks) = []
changes_of (Disable id) = []
changes_of (Database keep) = []
changes_of (Raise minima) = []

-- the commit of an entry that draws, with its changes
abbrev pub kept_of : Entry → Kept
kept_of entry = record { version = entry.version; xdes = entry.xdes; time = entry.time; changes = changes_of entry.act }

-- a change stays while its table is tracked with a minimum below its version
abbrev pub change_stays : List Table → ℕ → Change → Bool
change_stays tables version change = list_any (λ table. table.schema.id == change.table && is_above version table.tracked) tables

-- a commit stays while some tracked table has a minimum below its version
abbrev pub commit_stays : List Table → Kept → Bool
commit_stays tables commit = list_any (λ table. is_above commit.version table.tracked) tables

-- a commit with the changes that stay
abbrev pub trim_one : List Table → Kept → Kept
trim_one tables commit = record commit { changes = filter (change_stays tables commit.version) commit.changes }

-- the commits that stay, each with the changes that stay
abbrev pub trim : List Table → List Kept → List Kept
trim tables kept = map (trim_one tables) (filter (commit_stays tables) kept)

-- the database takes version and time from the entry and the greater transaction number; an entry that draws goes
-- last into the kept commits, of which those that no tracked table needs leave
unfoldable pub apply : Db → Entry → Db
apply db entry =
    let tables = tables_after entry.act entry.version entry.draws db.tables in
    record {
      version = entry.version;
      time = entry.time;
      last_xdes = max db.last_xdes entry.xdes;
      keep = keep_after entry.act db.keep;
      tables = tables;
      kept = trim tables (if entry.draws then db.kept ++ kept_of entry ∷ [] else db.kept);
    }

-- the empty database
abbrev pub no_db : Db
no_db = record { version = 0; time = 0; last_xdes = 0; keep = None; tables = []; kept = [] }

-- the entries applied one after the other
abbrev pub replay : Db → List Entry → Db
replay db entries = fold apply db entries
