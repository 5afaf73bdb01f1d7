use Rattle.std.proofs.Common.{◌≡◌, [], take, drop}
use Rattle.ct_types.specs.Answers.{onto, each_after}
use Rattle.ct_bind.specs.Writes.{listed_target}
use Rattle.ct_bind.proofs.writes.listed_targets.Given as goal

abbrev pub invariant-loop-at : goal.invariant-loop-at
invariant-loop-at l = onto l.made (each_after (listed_target l.table) (take l.at l.names) (drop l.at l.names)) ≡ each_after (listed_target l.table) [] l.names
