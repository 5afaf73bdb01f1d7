use Rattle.std.proofs.Common.{◌<◌, arith}
use Rattle.ct_types.specs.declared.entry.Kept.{Kept}
use Rattle.ct_database.proofs.Pointers.{all_pointed}
use Rattle.ct_database.proofs.forgotten.forget_all.Goals as goal

pub returns-in_err-forget : goal.returns-in_err-forget
returns-in_err-forget c =
    λ noted below key has.
    c.forget.ensures noted
    (all_pointed (λ (one : Kept). one.version < noted) c.args.commits.now c.loop-one.one-index c.one-item.result c.deref.result.now (omega arith) c.one-item.is c.deref.ensures below) key
    (c.loop-one.invariant noted below key has)

pub loop-one-preserved : goal.loop-one-preserved
loop-one-preserved c =
    λ noted below key has.
    c.forget.ensures noted
    (all_pointed (λ (one : Kept). one.version < noted) c.args.commits.now c.loop-one.one-index c.one-item.result c.deref.result.now (omega arith) c.one-item.is c.deref.ensures below) key
    (c.loop-one.invariant noted below key has)
