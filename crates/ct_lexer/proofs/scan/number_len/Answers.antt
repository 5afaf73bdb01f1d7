use Rattle.std.proofs.Common.{arith}
use Rattle.ct_lexer.proofs.scan.number_len.Goals as goal
use Rattle.ct_lexer.proofs.Names.{number_begins}

pub returns-then-len-gt0 : goal.returns-then-len-gt0
returns-then-len-gt0 c = rw c.run-len.ensures.run (number_begins c.args.bytes.now (omega (arith, c.run-len.ensures.run)))
