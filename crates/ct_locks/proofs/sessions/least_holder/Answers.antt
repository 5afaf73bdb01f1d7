use Rattle.std.proofs.Common.{◌∙◌, sym, arith}
use Rattle.ct_locks.proofs.Waits.{least_key, free_key}
use Rattle.ct_locks.proofs.sessions.least_holder.Goals as goal

pub returns-then-blocks : goal.returns-then-blocks
returns-then-blocks c =
    rw c.session.ensures (least_key c.args.sessions.now c.args.session c.args.table c.args.key.now c.loop-held.held-index c.held-item.result c.requires (omega arith) c.held-item.is c.loop-held.invariant (sym c.blocks-in-loop-held.ensures ∙ c.if-blocks.true))

pub returns : goal.returns
returns c = free_key c.args.sessions.now c.args.session c.args.table c.args.key.now c.loop-held.held-index c.requires (omega arith) c.loop-held.invariant
