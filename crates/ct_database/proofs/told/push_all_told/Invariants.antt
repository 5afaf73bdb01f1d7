use Rattle.std.proofs.Common.{◌≡◌, ◌++◌, take, filter, map}
use Rattle.ct_model.specs.Apply.{commit_stays}
use Rattle.ct_database.specs.Commits.{committed}
use Rattle.ct_database.specs.Steps.{pointed}
use Rattle.ct_database.proofs.told.push_all_told.Given as goal

abbrev pub invariant-loop-one : goal.invariant-loop-one
invariant-loop-one l = l.made ≡ l.initial.made ++ map committed (filter (commit_stays l.tables) (pointed (take l.one-index l.commits)))
