use Rattle.std.proofs.Common.{◌≡◌, ◌++◌, filter, map}
use Rattle.ct_model.specs.Apply.{commit_stays}
use Rattle.ct_database.specs.Commits.{committed}
use Rattle.ct_database.specs.Steps.{commits_of}
use Rattle.ct_database.proofs.told.told.Given as goal

abbrev pub invariant-loop-pair : goal.invariant-loop-pair
invariant-loop-pair l =
    l.made ++ map committed (filter (commit_stays l.tables) (commits_of l.pair-iterator)) ≡ map committed (filter (commit_stays l.tables) (commits_of l.initial.pair-iterator))
