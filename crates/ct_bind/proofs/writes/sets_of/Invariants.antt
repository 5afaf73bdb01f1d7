use Rattle.std.proofs.Common.{◌≡◌, [], take, drop}
use Rattle.ct_types.specs.Answers.{onto, each_after}
use Rattle.ct_bind_expr.specs.Among.{among}
use Rattle.ct_bind.specs.Writes.{set_of}
use Rattle.ct_bind.proofs.writes.sets_of.Given as goal

abbrev pub invariant-loop-at : goal.invariant-loop-at
invariant-loop-at l = onto l.made (each_after (among l.binder set_of l.table l.place) (take l.at l.sets) (drop l.at l.sets)) ≡ each_after (among l.binder set_of l.table l.place) [] l.sets
