use Rattle.std.proofs.Common.{◌↔◌, drop}
use Rattle.ct_model.specs.Applies.{WritesApply}
use Rattle.ct_redo.proofs.writes.writes_apply_in_turn.Given as goal

abbrev pub invariant-loop-write : goal.invariant-loop-write
invariant-loop-write l = WritesApply l.fn.after.tables l.writes ↔ WritesApply l.after.tables (drop l.write-index l.writes)
