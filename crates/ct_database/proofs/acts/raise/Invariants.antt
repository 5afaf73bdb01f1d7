use Rattle.std.proofs.Common.{◌≡◌, take, map, fold}
use Rattle.ct_model.specs.Apply.{raised}
use Rattle.ct_database.proofs.acts.raise.Given as goal

abbrev pub invariant-loop-table : goal.invariant-loop-table
invariant-loop-table l = l.made.items ≡ map (λ table. fold (λ before listed. raised listed before) table l.minima) (take l.table-index l.tables)
