-- What has to be kept of the entries so that a view can be asked who changed what after it: of each table, and of each key, only its
-- last change. The place of an entry is counted from 1, so that a view, which is a count of entries, sees the places up to itself.
-- This project's own.
use Rattle.std.specs.Prelude.{◌≡◌, ℕ, ◌≤◌, ◌==◌, nat_lt, Bool, List, drop, Option, None, Some, if◌then◌else◌}
use Rattle.std.specs.List.{find}
use Rattle.std.specs.Option.{option_and_then}
use Rattle.ct_types.specs.declared.entry.Entry.{Entry}
use Rattle.ct_types.specs.declared.value.Key.{Key}
use Rattle.ct_ptree.specs.Pairs.{value_at}
use Rattle.ct_conflicts.specs.Conflicts.{alters, writes_key, last_number}
use Rattle.ct_conflicts.specs.declared.stamps.Stamp.{Stamp}
use Rattle.ct_conflicts.specs.declared.stamps.TableStamps.{TableStamps}

abbrev pub is_of : ℕ → TableStamps → Bool
is_of table stamps = stamps.table == table

-- the last definition, TRUNCATE, ENABLE or DISABLE of a table
abbrev pub last_alter : List TableStamps → ℕ → Option Stamp
last_alter later table = option_and_then (λ (stamps : TableStamps). stamps.altered) (find (is_of table) later)

-- the last write of a key of a table
abbrev pub last_write : List TableStamps → ℕ → Key → Option Stamp
last_write later table key = option_and_then (λ (stamps : TableStamps). value_at stamps.written key) (find (is_of table) later)

-- the transaction of a stamp whose place is above a view
abbrev pub number_after : ℕ → Option Stamp → Option ℕ
number_after view None = None
number_after view (Some stamp) = if nat_lt view stamp.at then Some stamp.xdes else None

-- what is kept tells of the entries after a view who changed a table or a key last
pub record Tells (later : List TableStamps) (view : ℕ) (entries : List Entry) : Type 0 where
  pub written : (table : ℕ) (key : Key) → last_number (writes_key table key) None entries ≡ number_after view (last_write later table key)
  pub altered : (table : ℕ) → last_number (alters table) None entries ≡ number_after view (last_alter later table)

-- it does so for each view from a count of entries on
pub record IsLater (later : List TableStamps) (past : List Entry) (from : ℕ) : Type 0 where
  pub tells : (view : ℕ) → from ≤ view → Tells later view (drop view past)
