use Rattle.std.proofs.Common.{◌≡◌, ℕ, ◌==◌, take, if◌then◌else◌}
use Rattle.std.specs.List.{list_any}
use Rattle.std.specs.Option.{option_copied}
use Rattle.ct_database.specs.Steps.{chunks_on, with_chunk}
use Rattle.ct_database.proofs.by_table.with_tables.Given as goal

-- the tables so far have the chunk at the key, or none at it
abbrev pub invariant-loop-table : goal.invariant-loop-table
invariant-loop-table l =
    (other : ℕ) → chunks_on other l.made ≡ (if list_any (λ id. id == other) (take l.table-index l.tables) then with_chunk (option_copied l.chunk) l.key (chunks_on other l.by_table) else chunks_on other l.by_table)
