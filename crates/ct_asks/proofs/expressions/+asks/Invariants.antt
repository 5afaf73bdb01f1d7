use Rattle.std.proofs.Common.{◌≡◌, false, take}
use Rattle.std.specs.List.{list_any}
use Rattle.ct_asks.specs.Asks.{asks, term_asks}
use Rattle.ct_asks.proofs.expressions.+asks.Given as goal

abbrev pub invariant-one_asks-loop-e : goal.invariant-one_asks-loop-e
invariant-one_asks-loop-e l = list_any asks (take l.e-index l.all) ≡ false

abbrev pub invariant-term_asks-loop-term : goal.invariant-term_asks-loop-term
invariant-term_asks-loop-term l = list_any term_asks (take l.term-index l.all) ≡ false
