use Rattle.std.proofs.Common.{◌≡◌, take, map}
use Rattle.ct_model.specs.Apply.{truncated}
use Rattle.ct_database.proofs.acts.truncate.Given as goal

abbrev pub invariant-loop-table : goal.invariant-loop-table
invariant-loop-table l = l.made.items ≡ map (truncated l.id l.version l.draws) (take l.table-index l.tables)
