use Rattle.std.proofs.Common.{◌<◌, ◌∙◌, arith}
use Rattle.std.proofs.lemmas.Result.{IfOk-weaker}
use Rattle.ct_blocking.proofs.Found.{table_free, table_held}
use Rattle.ct_blocking.proofs.blocked.blocked_table.Goals as goal

pub returns-in-Ok : goal.returns-in-Ok
returns-in-Ok c = λ sessions are. table_free c.args.locks.now sessions are c.args.session c.args.name.now c.args.table c.in-Ok.ensures.free

pub returns-in-Err : goal.returns-in-Err
returns-in-Err c =
    let byte : c.in-Err.holder.session < 256 = omega arith in
    IfOk-weaker c.held_at.result _ _
    (λ made is sessions are. is ∙ table_held c.args.locks.now sessions are c.args.session c.args.name.now c.args.table c.in-Err.holder byte c.in-Err.ensures.held)
    c.held_at.ensures
