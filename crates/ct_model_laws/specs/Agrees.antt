-- When a client's copy of a table agrees with a database: the net changes lead from the one to the other. This project's
-- own, for the recipe of https://learn.microsoft.com/sql/relational-databases/track-changes/work-with-change-tracking-sql-server.
use Rattle.std.specs.Prelude.{◌≡◌, ℕ, ◌≤◌, List, map, Some, Contains, pos}
use Rattle.std.specs.Option.{IfSome}
use Rattle.ct_types.specs.declared.value.Key.{Key}
use Rattle.ct_types.specs.declared.value.Row.{Row}
use Rattle.ct_model.specs.declared.db.Table.{Table}
use Rattle.ct_model.specs.declared.db.Db.{Db}
use Rattle.ct_model.specs.Net.{net}
use Rattle.ct_model.specs.Tables.{row_at, table_of}

-- the copy and the table's rows differ at a key
abbrev pub Differ : Table → List Row → Key → Type 0
Differ table copied key = ¬ (row_at table.schema copied key ≡ row_at table.schema table.rows key)

-- a table that is not tracked, or has a minimum above the noted version, asks for nothing
abbrev pub CopyAgrees : Db → ℕ → List Row → Table → Type 0
CopyAgrees db noted copied table =
    IfSome table.tracked (λ tracked. tracked.min ≤ noted → (key : Key) → Differ table copied key → Contains (map (λ row. row.key) (net db table.schema.id (Some (pos noted)))) key)

-- the noted version is at most the version, and each key at which copy and rows differ is one of the net changes
-- since the noted version
pub record Agrees (db : Db) (id noted : ℕ) (copied : List Row) : Type 0 where
  pub not_ahead : noted ≤ db.version
  pub rows_agree : IfSome (table_of db.tables id) (CopyAgrees db noted copied)
