use Rattle.std.proofs.Common.{◌≡◌, ◌++◌, map}
use Rattle.std.specs.Vec.Iter.{into_iter_items}
use Rattle.ct_bind.proofs.queries.values_of.Given as goal

abbrev pub invariant-loop-item : goal.invariant-loop-item
invariant-loop-item l = l.values ++ map (λ item. item.value.expr) (into_iter_items l.item-iterator) ≡ map (λ item. item.value.expr) l.fn.items
