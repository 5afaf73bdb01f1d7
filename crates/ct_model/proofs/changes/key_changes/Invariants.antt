use Rattle.std.proofs.Common.{◌≡◌, take}
use Rattle.ct_model.specs.Net.{window}
use Rattle.ct_model.proofs.changes.key_changes.Given as goal

abbrev pub invariant-loop-dated : goal.invariant-loop-dated
invariant-loop-dated l = l.made ≡ window (take l.dated-index l.changes) l.key
