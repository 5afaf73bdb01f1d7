use Rattle.std.proofs.Common.{◌≡◌, map, take}
use Rattle.ct_grammar.specs.Told.{with_kind}
use Rattle.ct_grammar.proofs.kinded.with_kinds.Given as goal

abbrev pub invariant-loop-token : goal.invariant-loop-token
invariant-loop-token l = l.made.items ≡ map (with_kind l.text) (take l.token-index l.tokens)
