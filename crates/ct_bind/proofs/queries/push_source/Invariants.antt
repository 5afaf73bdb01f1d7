use Rattle.std.proofs.Common.{◌≡◌, drop}
use Rattle.ct_bind.specs.Queries.{columns_of}
use Rattle.ct_bind.proofs.queries.push_source.Given as goal

abbrev pub invariant-loop-source : goal.invariant-loop-source
invariant-loop-source l = (l.made ≡ l.initial.made) × (columns_of l.name l.at (drop l.source-index l.sources) ≡ columns_of l.name 0 l.sources)
