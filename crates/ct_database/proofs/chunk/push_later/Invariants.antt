use Rattle.std.proofs.Common.{◌≡◌, ◌++◌, take, filter}
use Rattle.ct_source.specs.Rows.{lent}
use Rattle.ct_database.specs.Steps.{is_later, pointed}
use Rattle.ct_database.proofs.chunk.push_later.Given as goal

abbrev pub invariant-loop-one : goal.invariant-loop-one
invariant-loop-one l = lent l.made ≡ lent l.initial.made ++ filter (is_later l.version) (pointed (take l.one-index l.commits))
