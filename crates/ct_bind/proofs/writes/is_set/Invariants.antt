use Rattle.std.proofs.Common.{◌≡◌, drop}
use Rattle.ct_bind.specs.Writes.{is_set}
use Rattle.ct_bind.proofs.writes.is_set.Given as goal

abbrev pub invariant-loop-set : goal.invariant-loop-set
invariant-loop-set l = is_set l.name (drop l.set-index l.before) ≡ is_set l.name l.before
