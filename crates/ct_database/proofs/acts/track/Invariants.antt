use Rattle.std.proofs.Common.{◌≡◌, take, map}
use Rattle.ct_model.specs.Apply.{tracked_as}
use Rattle.ct_database.proofs.acts.track.Given as goal

abbrev pub invariant-loop-table : goal.invariant-loop-table
invariant-loop-table l = l.made.items ≡ map (tracked_as l.id l.tracked) (take l.table-index l.tables)
