use Rattle.std.proofs.Common.{◌≡◌, take, filter}
use Rattle.ct_model.specs.Apply.{change_stays}
use Rattle.ct_database.proofs.plain.needed_changes.Given as goal

abbrev pub invariant-loop-change : goal.invariant-loop-change
invariant-loop-change l = l.made ≡ filter (change_stays l.tables l.version) (take l.change-index l.changes)
