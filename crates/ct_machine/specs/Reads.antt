-- What a statement reads of what it sees: the catalogue in which names are bound, what the functions of expressions may ask for,
-- and the rows of the sources of a SELECT. The columns of CHANGETABLE are those of
-- https://learn.microsoft.com/sql/relational-databases/system-functions/changetable-transact-sql; those of the two system tables
-- are some of the ones that the reference gives for sys.dm_tran_commit_table and sys.change_tracking_tables.
use Rattle.std.specs.Prelude.{ℕ, ℤ, ◌==◌, codes, Bool, false, List, [], ◌∷◌, map, Option, None, Some, is_some, Ok, if◌then◌else◌}
use Rattle.std.specs.Option.{option_map}
use Rattle.std.specs.List.{filter_map}
use Rattle.ct_types.specs.declared.bound.BoundExpr.{BoundExpr}
use Rattle.ct_types.specs.declared.bound.BoundRowVersion.{BoundRowVersion}
use Rattle.ct_types.specs.declared.bound.BoundSelect.{BoundSelect}
use Rattle.ct_types.specs.declared.bound.BoundSource.{BoundSource}
use Rattle.ct_types.specs.declared.bound.BoundSource.TheVariants as source
use Rattle.ct_types.specs.declared.bound.Join.{Join}
use Rattle.ct_types.specs.declared.bound.Join.TheVariants.{Apply}
use Rattle.ct_types.specs.declared.catalogue.Catalogued.{Catalogued}
use Rattle.ct_types.specs.declared.entry.Kept.{Kept}
use Rattle.ct_types.specs.declared.entry.Op.{Op}
use Rattle.ct_types.specs.declared.entry.Op.TheVariants.{Insert as inserted, Update as updated, Delete as deleted}
use Rattle.ct_types.specs.declared.reply.Grid.{Grid}
use Rattle.ct_types.specs.declared.tracked.NetRow.{NetRow}
use Rattle.ct_types.specs.declared.tracked.VersionRow.{VersionRow}
use Rattle.ct_types.specs.declared.value.Key.{Key}
use Rattle.ct_types.specs.declared.value.Row.{Row}
use Rattle.ct_types.specs.declared.value.Value.{Value}
use Rattle.ct_types.specs.declared.value.Value.TheVariants.{Null, Int, Text, Bytes}
use Rattle.ct_mask.specs.Masks.{bytes_of}
use Rattle.ct_model.specs.declared.db.Db.{Db}
use Rattle.ct_model.specs.declared.db.Table.{Table}
use Rattle.ct_model.specs.Net.{net}
use Rattle.ct_model.specs.Tables.{catalogued, table_of}
use Rattle.ct_model.specs.Versions.{current, row_version as last_version}
use Rattle.ct_expr.specs.Environment.{Environment}
use Rattle.ct_expr.specs.Functions.{counted, counted_or_null, bytes_or_null, one_or_zero}
use Rattle.ct_expr.specs.Meaning.{World, on, row_version, value}
use Rattle.ct_types.specs.Answers.{Answer, ◌>>=◌, each}
use Rattle.ct_query.specs.Answer.{answer}
use Rattle.ct_state.specs.Seen.{Seen}

-- ---- names

-- the tables, as names find them
abbrev pub catalogue : Db → List Catalogued
catalogue db = map catalogued db.tables

-- whether a catalogue has the table of an id, and tracks it
abbrev pub tracks : List Catalogued → ℕ → Bool
tracks [] id = false
tracks (table ∷ tables) id = if table.schema.id == id then is_some table.tracked else tracks tables id

-- ---- expressions

-- what expressions may ask for beside their row
abbrev pub env_of : Seen → Environment
env_of seen = record {
  variables = record { 0 = seen.variables };
  current = current seen.db;
  tables = catalogue seen.db;
}

-- beside their row, expressions read this: a SELECT in brackets asks for the version of a key's last kept change
abbrev pub world_of : Seen → World
world_of seen = record { env = env_of seen; versions = last_version seen.db }

-- ---- the rows of CHANGETABLE(CHANGES ..)

-- the letter of an operation
abbrev pub op_name : Op → List ℕ
op_name inserted = codes "I"
op_name updated = codes "U"
op_name deleted = codes "D"

-- SYS_CHANGE_VERSION, SYS_CHANGE_CREATION_VERSION, SYS_CHANGE_OPERATION, SYS_CHANGE_COLUMNS, SYS_CHANGE_CONTEXT, and
-- the key
abbrev pub shown : NetRow → Row
shown row = record {
  0 = counted row.version ∷ counted_or_null row.creation ∷ Text (op_name row.op) ∷ bytes_or_null (option_map bytes_of row.mask) ∷ bytes_or_null row.context ∷ row.key.0;
}

-- the version that the second argument gives; NULL gives none
abbrev pub since_of : Value → Option ℤ
since_of Null = None
since_of (Int n) = Some n
since_of (Text t) = None
since_of (Bytes b) = None

-- the argument is evaluated on no row, since it names no column
abbrev pub changes_rows : Seen → ℕ → BoundExpr → Answer (List Row)
changes_rows seen id since = value (on (world_of seen) (record { 0 = [] })) since >>= (λ last. Ok (map shown (net seen.db id (since_of last))))

-- ---- the row of CHANGETABLE(VERSION ..)

-- SYS_CHANGE_VERSION, SYS_CHANGE_CONTEXT, and the key as it was given
abbrev pub shown_version : Key × VersionRow → Row
shown_version found = record { 0 = counted_or_null found.1.version ∷ bytes_or_null found.1.context ∷ found.0.0 }

-- the row of the key that the values make on a row
abbrev pub version_on : Seen → BoundRowVersion → Row → Answer Row
version_on seen version row = row_version (on (world_of seen) row) version >>= (λ found. Ok (shown_version found))

-- ---- the rows of the system tables

-- sys.dm_tran_commit_table has commit_ts, xdes_id and commit_time of each kept commit, by rising version
abbrev pub shown_commit : Kept → Row
shown_commit one = record { 0 = counted one.version ∷ counted one.xdes ∷ counted one.time ∷ [] }

-- sys.change_tracking_tables has object_id, is_track_columns_updated_on and min_valid_version of each tracked table, by rising id
abbrev pub shown_tracking : Catalogued → Option Row
shown_tracking table =
    option_map (λ tracked. record { 0 = counted table.schema.id ∷ one_or_zero tracked.masks ∷ counted tracked.min ∷ [] }) table.tracked

-- ---- the rows of sources

-- a table that is not there has no rows
abbrev pub rows_of : Option Table → List Row
rows_of None = []
rows_of (Some table) = table.rows

-- a table's rows in key order, one row for each net change, the row of one key, or those of a system table; the values of VERSION
-- are evaluated on no row, since they name no column here
abbrev pub source_rows : Seen → BoundSource → Answer (List Row)
source_rows seen (source.Table id) = Ok (rows_of (table_of seen.db.tables id))
source_rows seen (source.Changes id since) = changes_rows seen id since
source_rows seen (source.Version version) = version_on seen version (record { 0 = [] }) >>= (λ row. Ok (row ∷ []))
source_rows seen source.CommitTable = Ok (map shown_commit seen.db.kept)
source_rows seen source.TrackingTables = Ok (filter_map shown_tracking (catalogue seen.db))

-- of a source that is not there, none
abbrev pub optional_rows : Seen → Option BoundSource → Answer (List Row)
optional_rows seen None = Ok []
optional_rows seen (Some source) = source_rows seen source

-- ---- SELECT

-- the rows of the right source; in CROSS APPLY the values of VERSION are evaluated on each left row
abbrev pub right_rows : Seen → Join → Option BoundSource → List Row → Answer (List Row)
right_rows seen Apply (Some (source.Version version)) lefts = each (version_on seen version) lefts
right_rows seen join right lefts = optional_rows seen right

-- the rows of the left source, then those of the right one, and what the query answers over them
abbrev pub selected : Seen → BoundSelect → Answer Grid
selected seen query =
    optional_rows seen query.left >>= (λ left. right_rows seen query.plan.join query.right left >>= (λ right. answer (world_of seen) query.plan left right))
