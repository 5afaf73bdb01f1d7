use Rattle.std.proofs.Common.{arith}
use Rattle.ct_lexer.proofs.scan.name_len.Goals as goal
use Rattle.ct_lexer.proofs.Names.{name_front, name_begins}

pub returns-then-len-le-MAX_NAME : goal.returns-then-len-le-MAX_NAME
returns-then-len-le-MAX_NAME c = rw c.run-len.ensures.run (name_begins c.args.bytes.now (cc) (omega (arith, c.run-len.ensures.run)))

pub returns-else-starts : goal.returns-else-starts
returns-else-starts c word more e name = let f = name_front c.args.bytes.now word more e name in grind arith
