use Rattle.std.proofs.Common.{◌≡◌, drop}
use Rattle.std.specs.List.{list_any}
use Rattle.ct_bind_names.specs.Names.{same}
use Rattle.ct_bind.proofs.sources.has_source.Given as goal

abbrev pub invariant-loop-source : goal.invariant-loop-source
invariant-loop-source l = list_any (λ source. same source.name l.name) (drop l.source-index l.before) ≡ list_any (λ source. same source.name l.name) l.before
