use Rattle.std.proofs.Common.{◌↔◌, drop}
use Rattle.ct_model.specs.Applies.{WritesApply}
use Rattle.ct_applies.proofs.writes.writes_apply.Given as goal

abbrev pub invariant-loop-write : goal.invariant-loop-write
invariant-loop-write l = WritesApply l.tables l.writes ↔ WritesApply l.after (drop l.write-index l.writes)
