use Rattle.std.proofs.Common.{arith}
use Rattle.ct_locks.proofs.Waits.{least_table, free_table}
use Rattle.ct_locks.proofs.sessions.least_of_table.Goals as goal

pub returns-in-Some-clause-held : goal.returns-in-Some-clause-held
returns-in-Some-clause-held c =
    rw c.session.ensures (least_table c.args.sessions.now c.args.session c.args.table c.loop-held.held-index c.held-item.result c.in-Some.place c.requires (omega arith) c.held-item.is c.loop-held.invariant c.in-Some.ensures.some.0 c.in-Some.ensures.some.1)

pub returns-clause-free : goal.returns-clause-free
returns-clause-free c = free_table c.args.sessions.now c.args.session c.args.table c.loop-held.held-index c.requires (omega arith) c.loop-held.invariant
