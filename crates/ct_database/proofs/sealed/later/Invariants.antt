use Rattle.std.proofs.Common.{◌≡◌, ◌++◌, filter}
use Rattle.ct_source.specs.Rows.{lent}
use Rattle.ct_database.specs.Steps.{is_later, commits_of}
use Rattle.ct_database.proofs.sealed.later.Given as goal

abbrev pub invariant-loop-pair : goal.invariant-loop-pair
invariant-loop-pair l = lent l.made ++ filter (is_later l.version) (commits_of l.pair-iterator) ≡ filter (is_later l.version) (commits_of l.initial.pair-iterator)
