use Rattle.std.proofs.Common.{◌≡◌, List, drop}
use Rattle.ct_types.specs.declared.entry.Entry.{Entry}
use Rattle.ct_conflicts.specs.Conflicts.{conflicting_keys}
use Rattle.ct_conflicts.specs.Later.{Tells}
use Rattle.ct_conflicts.proofs.stamps.first_written.Given as goal

abbrev pub invariant-loop-write : goal.invariant-loop-write
invariant-loop-write l = (entries : List Entry) → Tells l.later l.view entries → conflicting_keys entries l.writes ≡ conflicting_keys entries (drop l.write-index l.writes)
