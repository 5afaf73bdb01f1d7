use Rattle.std.proofs.Common.{◌≡◌, ℕ, ◌==◌, ◌||◌, take}
use Rattle.std.specs.List.{list_any}
use Rattle.ct_database.proofs.by_table.add_tables.Given as goal

abbrev pub invariant-loop-change : goal.invariant-loop-change
invariant-loop-change l =
    (table : ℕ) → list_any (λ id. id == table) l.made ≡ (list_any (λ id. id == table) l.initial.made || list_any (λ change. change.table == table) (take l.change-index l.changes))
