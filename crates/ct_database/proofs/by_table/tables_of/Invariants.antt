use Rattle.std.proofs.Common.{◌≡◌, ℕ, ◌==◌, take}
use Rattle.std.specs.List.{list_any}
use Rattle.ct_database.specs.Commits.{has_change_of}
use Rattle.ct_database.specs.Steps.{pointed}
use Rattle.ct_database.proofs.by_table.tables_of.Given as goal

abbrev pub invariant-loop-one : goal.invariant-loop-one
invariant-loop-one l = (table : ℕ) → list_any (λ id. id == table) l.made ≡ list_any (has_change_of table) (pointed (take l.one-index l.commits))
