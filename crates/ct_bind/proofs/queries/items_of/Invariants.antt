use Rattle.std.proofs.Common.{◌≡◌, drop}
use Rattle.ct_types.specs.Answers.{onto}
use Rattle.ct_bind_expr.specs.Among.{among}
use Rattle.ct_bind.specs.Queries.{items_of}
use Rattle.ct_bind.proofs.queries.items_of.Given as goal

abbrev pub invariant-loop-item : goal.invariant-loop-item
invariant-loop-item l = onto l.made (among l.binder items_of l.place.sources (drop l.item-index l.items)) ≡ among l.binder items_of l.place.sources l.items
