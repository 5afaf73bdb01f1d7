-- The versions that a client asks for, and how cleanup raises the minima.
-- Source: https://learn.microsoft.com/sql/relational-databases/system-functions/change-tracking-functions-transact-sql;
-- the cutoff is this project's own.
use Rattle.std.specs.Prelude.{ℕ, ◌+◌, nat_lt, nat_le, max, List, [], map, filter, fold, Option, None, Some, if◌then◌else◌}
use Rattle.std.specs.Option.{option_map, option_and_then}
use Rattle.std.specs.List.{filter_map}
use Rattle.ct_types.specs.declared.value.Key.{Key}
use Rattle.ct_types.specs.declared.entry.Min.{Min}
use Rattle.ct_types.specs.declared.entry.Kept.{Kept}
use Rattle.ct_types.specs.declared.tracked.VersionRow.{VersionRow}
use Rattle.ct_model.specs.declared.db.Table.{Table}
use Rattle.ct_model.specs.declared.db.Dated.{Dated}
use Rattle.ct_model.specs.declared.db.Db.{Db}
use Rattle.ct_model.specs.Net.{changes_above, window, last_of}
use Rattle.ct_model.specs.Tables.{table_of}

-- CHANGE_TRACKING_CURRENT_VERSION: the version, or NULL where the database is off
abbrev pub current : Db → Option ℕ
current db = option_map (λ keep. db.version) db.keep

-- CHANGE_TRACKING_MIN_VALID_VERSION: the least version that a client may hold, or NULL where the table is not tracked
abbrev pub minimum : Db → ℕ → Option ℕ
minimum db id = option_and_then (λ table. option_map (λ tracked. tracked.min) table.tracked) (table_of db.tables id)

-- the version and the context of a change, or NULL twice
abbrev pub version_row_of : Option Dated → VersionRow
version_row_of None = record { version = None; context = None }
version_row_of (Some dated) = record { version = Some dated.version; context = dated.change.context }

-- CHANGETABLE(VERSION ..): the version and the context of the last kept change of a key, else NULL twice. Versions count
-- from 1, so all kept changes are above 0.
abbrev pub row_version : Db → ℕ → Key → VersionRow
row_version db id key = version_row_of (last_of (window (changes_above id 0 db.kept) key))

-- the greatest version of a kept commit that is older than the retention, or as old; 0 if there is none
abbrev pub cutoff_of : ℕ → List Kept → ℕ → ℕ
cutoff_of retention kept now = fold max 0 (map (λ one. one.version) (filter (λ one. nat_le (one.time + retention) now) kept))

-- the cutoff, where the database is on and cleans up by itself
abbrev pub cutoff : Db → ℕ → Option ℕ
cutoff db now = option_and_then (λ keep. if keep.auto then Some (cutoff_of keep.retention db.kept now) else None) db.keep

-- the new minimum of a table that is tracked with one below the cutoff
abbrev pub raise_to : ℕ → Table → Option Min
raise_to cutoff table = option_and_then (λ tracked. if nat_lt tracked.min cutoff then Some (record { table = table.schema.id; min = cutoff }) else None) table.tracked

-- the new minima of tables that are below the cutoff, where there is one
abbrev pub raises_to : Option ℕ → List Table → List Min
raises_to None tables = []
raises_to (Some cutoff) tables = filter_map (raise_to cutoff) tables

-- the minima that cleanup raises, by rising table; none where the database is off or does not clean up by itself
abbrev pub raises : Db → ℕ → List Min
raises db now = raises_to (cutoff db now) db.tables
