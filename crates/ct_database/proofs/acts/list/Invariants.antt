use Rattle.std.proofs.Common.{◌≡◌, take, map}
use Rattle.ct_model.specs.Tables.{catalogued}
use Rattle.ct_database.proofs.acts.list.Given as goal

abbrev pub invariant-loop-table : goal.invariant-loop-table
invariant-loop-table l = l.made ≡ map catalogued (take l.table-index l.tables)
