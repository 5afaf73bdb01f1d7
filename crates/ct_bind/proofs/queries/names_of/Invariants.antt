use Rattle.std.proofs.Common.{◌≡◌, map, take}
use Rattle.ct_bind.specs.Queries.{shown_name}
use Rattle.ct_bind.proofs.queries.names_of.Given as goal

abbrev pub invariant-loop-item : goal.invariant-loop-item
invariant-loop-item l = l.made ≡ map (λ item. shown_name item.name) (take l.item-index l.items)
