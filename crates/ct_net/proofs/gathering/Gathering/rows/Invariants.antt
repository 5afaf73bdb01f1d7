use Rattle.std.proofs.Common.{◌≡◌, ◌++◌, map}
use Rattle.ct_net.specs.Standings.{shown}
use Rattle.ct_net.proofs.gathering.Gathering.rows.Given as goal

abbrev pub invariant-loop-pair : goal.invariant-loop-pair
invariant-loop-pair l = l.made ++ map (λ pair. shown pair.value) l.pair-iterator ≡ map (λ pair. shown pair.value) l.initial.pair-iterator
