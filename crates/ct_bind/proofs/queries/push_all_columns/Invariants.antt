use Rattle.std.proofs.Common.{◌≡◌, ◌++◌, drop}
use Rattle.ct_bind.specs.Queries.{all_columns}
use Rattle.ct_bind.proofs.queries.push_all_columns.Given as goal

abbrev pub invariant-loop-source : goal.invariant-loop-source
invariant-loop-source l = l.made ++ all_columns l.at (drop l.source-index l.sources) ≡ l.initial.made ++ all_columns 0 l.sources
