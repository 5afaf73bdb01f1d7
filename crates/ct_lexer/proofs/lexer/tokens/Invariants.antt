use Rattle.std.proofs.Common.{length, ◌-◌}
use Rattle.ct_lexer.proofs.Cutting.{CutTo}
use Rattle.ct_lexer.proofs.lexer.tokens.Given as goal

abbrev pub invariant-loop-at : goal.invariant-loop-at
invariant-loop-at l = CutTo l.bytes l.found l.at

abbrev pub decreases-loop-at : goal.decreases-loop-at
decreases-loop-at l = length l.bytes - l.at
