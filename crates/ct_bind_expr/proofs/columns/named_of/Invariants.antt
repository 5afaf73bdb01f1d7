use Rattle.std.proofs.Common.{◌≡◌, drop}
use Rattle.ct_bind_expr.specs.Places.{named_of}
use Rattle.ct_bind_expr.proofs.columns.named_of.Given as goal

abbrev pub invariant-loop-source : goal.invariant-loop-source
invariant-loop-source l = named_of l.wanted l.name l.at (drop l.source-index l.sources) ≡ named_of l.wanted l.name 0 l.sources
