use Rattle.std.proofs.Common.{◌≡◌, drop}
use Rattle.ct_types.specs.Answers.{onto, each}
use Rattle.ct_bind_expr.specs.Among.{among}
use Rattle.ct_bind.specs.Writes.{tuple_of}
use Rattle.ct_bind.proofs.writes.tuples_of.Given as goal

abbrev pub invariant-loop-values : goal.invariant-loop-values
invariant-loop-values l = onto l.made (each (among l.binder tuple_of l.targets) (drop l.values-index l.tuples)) ≡ each (among l.binder tuple_of l.targets) l.tuples
