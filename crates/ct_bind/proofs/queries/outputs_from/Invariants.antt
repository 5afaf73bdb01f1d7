use Rattle.std.proofs.Common.{◌≡◌, ◌++◌, drop}
use Rattle.ct_bind.specs.Queries.{outputs_from}
use Rattle.ct_bind.proofs.queries.outputs_from.Given as goal

abbrev pub invariant-loop-item : goal.invariant-loop-item
invariant-loop-item l = l.made ++ outputs_from l.place (drop l.item-index l.items) ≡ outputs_from l.at l.items
