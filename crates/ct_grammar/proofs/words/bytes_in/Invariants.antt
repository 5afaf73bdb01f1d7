use Rattle.std.proofs.Common.{◌≡◌, ◌+◌, ◌*◌, ◌++◌, drop}
use Rattle.ct_grammar.specs.Words.{hex_pairs}
use Rattle.ct_grammar.proofs.words.bytes_in.Given as goal

abbrev pub invariant-loop-at : goal.invariant-loop-at
invariant-loop-at l = l.bytes.items ++ hex_pairs (drop (2 * l.at + 2) l.digits) ≡ hex_pairs (drop 2 l.digits)
