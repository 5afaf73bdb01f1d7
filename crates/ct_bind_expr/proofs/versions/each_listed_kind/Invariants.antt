use Rattle.std.proofs.Common.{◌≡◌, [], take, drop}
use Rattle.ct_types.specs.Answers.{each_after, onto}
use Rattle.ct_bind_expr.specs.Versions.{listed_kind}
use Rattle.ct_bind_expr.proofs.versions.each_listed_kind.Given as goal

abbrev pub invariant-loop-at : goal.invariant-loop-at
invariant-loop-at l = onto l.made (each_after (listed_kind l.key) (take l.at l.names) (drop l.at l.names)) ≡ each_after (listed_kind l.key) [] l.names
