use Rattle.std.proofs.Common.{◌<◌, sym, ◌∙◌, arith}
use Rattle.std.proofs.lemmas.Result.{IfOk-weaker}
use Rattle.ct_blocking.proofs.Found.{none_left, write_blocked, write_free}
use Rattle.ct_blocking.proofs.blocked.blocked_keys.Goals as goal

pub loop-write-preserved : goal.loop-write-preserved
loop-write-preserved c = λ sessions are.
    c.loop-write.invariant sessions are
    ∙ write_free c.args.locks.now sessions are c.args.session c.args.name.now c.args.writes.now c.loop-write.write-index c.write-item.result (omega arith) c.write-item.is c.in_default.ensures

pub returns-in-Some : goal.returns-in-Some
returns-in-Some c =
    let byte : c.in-Some.holder < 256 = omega arith in
    IfOk-weaker c.refusal.result _ _ (λ made is sessions are.
    is
    ∙ sym (c.loop-write.invariant sessions are
    ∙ write_blocked c.args.locks.now sessions are c.args.session c.args.name.now c.args.writes.now c.loop-write.write-index c.write-item.result c.in-Some.holder (omega arith) c.write-item.is byte c.in-Some.ensures))
    c.refusal.ensures

pub returns : goal.returns
returns c = λ sessions are.
    sym (c.loop-write.invariant sessions are ∙ none_left c.args.locks.now sessions are c.args.session c.args.name.now c.args.writes.now c.loop-write.write-index (omega arith))
