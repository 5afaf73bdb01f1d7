-- What is told of a kept commit, and which tables it changes. Source: https://learn.microsoft.com/sql/relational-databases/system-catalog-views/sys-dm-tran-commit-table-transact-sql.
use Rattle.std.specs.Prelude.{ℕ, Bool, ◌==◌, List, filter}
use Rattle.std.specs.List.{list_any}
use Rattle.ct_types.specs.declared.entry.Kept.{Kept}
use Rattle.ct_database.specs.declared.committed.Committed.{Committed}

-- its version, its transaction number and its time
abbrev pub committed : Kept → Committed
committed one = record { version = one.version; xdes = one.xdes; time = one.time }

-- whether a commit has a change of a table
abbrev pub has_change_of : ℕ → Kept → Bool
has_change_of table one = list_any (λ change. change.table == table) one.changes

-- the commits that have a change of a table, in their order
abbrev pub commits_on : ℕ → List Kept → List Kept
commits_on table = filter (has_change_of table)
