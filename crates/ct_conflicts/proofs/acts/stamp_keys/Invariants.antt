use Rattle.std.proofs.Common.{false, take}
use Rattle.std.specs.List.{list_any}
use Rattle.ct_conflicts.specs.Conflicts.{is_on}
use Rattle.ct_conflicts.specs.Stamped.{IsStamped}
use Rattle.ct_conflicts.proofs.acts.stamp_keys.Given as goal

abbrev pub invariant-loop-write : goal.invariant-loop-write
invariant-loop-write l = IsStamped l.later.items l.initial.later.items l.stamp (λ table key. list_any (is_on table key) (take l.write-index l.writes)) (λ table. false)
