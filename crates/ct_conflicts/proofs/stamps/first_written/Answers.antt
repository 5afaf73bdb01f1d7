use Rattle.std.proofs.Common.{Some, sym, ◌∙◌, arith}
use Rattle.ct_conflicts.proofs.Asked.{one_asked}
use Rattle.ct_conflicts.proofs.stamps.first_written.Goals as goal

pub returns-in-Some : goal.returns-in-Some
returns-in-Some c = λ entries tells.
    sym (c.loop-write.invariant entries tells
    ∙ one_asked c.args.later.now c.args.view entries c.args.writes.now c.loop-write.write-index c.write-item.result (Some c.in-Some.number) tells (omega arith) c.write-item.is c.in-Some.ensures)
