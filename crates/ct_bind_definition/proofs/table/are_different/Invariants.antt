use Rattle.std.proofs.Common.{◌≡◌, drop}
use Rattle.ct_bind_definition.specs.Definitions.{are_different}
use Rattle.ct_bind_definition.proofs.table.are_different.Given as goal

abbrev pub invariant-loop-at : goal.invariant-loop-at
invariant-loop-at l = are_different (drop l.at l.columns) ≡ are_different l.columns
