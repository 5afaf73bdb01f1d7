use Rattle.std.proofs.Common.{◌≡◌, drop}
use Rattle.ct_types.specs.Answers.{onto, each}
use Rattle.ct_bind_expr.specs.Among.{among}
use Rattle.ct_bind.specs.Queries.{order_by}
use Rattle.ct_bind.proofs.queries.each_order_by.Given as goal

abbrev pub invariant-loop-it : goal.invariant-loop-it
invariant-loop-it l = onto l.made (each (among l.binder order_by l.place) (drop l.it-index l.order)) ≡ each (among l.binder order_by l.place) l.order
