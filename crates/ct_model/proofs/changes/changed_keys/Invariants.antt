use Rattle.std.proofs.Common.{◌≡◌, take}
use Rattle.ct_model.specs.Net.{keys_of}
use Rattle.ct_model.proofs.changes.changed_keys.Given as goal

abbrev pub invariant-loop-dated : goal.invariant-loop-dated
invariant-loop-dated l = l.keys ≡ keys_of (take l.dated-index l.changes)
