use Rattle.std.proofs.Common.{◌≡◌, take}
use Rattle.ct_database.proofs.plain.plain_tables.Given as goal

abbrev pub invariant-loop-table : goal.invariant-loop-table
invariant-loop-table l = l.made ≡ take l.table-index l.tables
