use Rattle.std.proofs.Common.{◌≡◌, ◌++◌, drop}
use Rattle.ct_bind_expr.specs.Places.{named_in}
use Rattle.ct_bind_expr.proofs.columns.named_in.Given as goal

abbrev pub invariant-loop-source : goal.invariant-loop-source
invariant-loop-source l = l.found ++ named_in l.name l.at (drop l.source-index l.sources) ≡ named_in l.name 0 l.sources
