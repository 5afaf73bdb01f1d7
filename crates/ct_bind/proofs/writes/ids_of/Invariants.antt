use Rattle.std.proofs.Common.{◌≡◌, map, take}
use Rattle.ct_bind.proofs.writes.ids_of.Given as goal

abbrev pub invariant-loop-target : goal.invariant-loop-target
invariant-loop-target l = l.made ≡ map (λ target. target.column) (take l.target-index l.targets)
