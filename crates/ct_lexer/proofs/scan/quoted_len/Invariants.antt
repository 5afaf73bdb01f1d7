use Rattle.std.proofs.Common.{length}
use Rattle.ct_lexer.proofs.Quotes.{Opened}
use Rattle.ct_lexer.proofs.scan.quoted_len.Given as goal

abbrev pub invariant-loop-byte : goal.invariant-loop-byte
invariant-loop-byte l = Opened l.bytes l.rest l.len

abbrev pub decreases-loop-byte : goal.decreases-loop-byte
decreases-loop-byte l = length l.rest
