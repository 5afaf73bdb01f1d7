use Rattle.std.proofs.Common.{ap, ◌∙◌, arith}
use Rattle.ct_ptree.specs.Pairs.{value_at}
use Rattle.ct_database.specs.Steps.{own_key}
use Rattle.ct_database.proofs.Notes.{unchanged, noted_more}
use Rattle.ct_database.proofs.noted.note.Goals as goal

pub returns-in_err-own-clause-others : goal.returns-in_err-own-clause-others
returns-in_err-own-clause-others c =
    λ table key none. unchanged c.loop-change.lasts c.args.lasts.now c.args.changes.now c.loop-change.change-index c.args.version table key (c.loop-change.invariant table key) none

pub returns-in_err-put-clause-others : goal.returns-in_err-put-clause-others
returns-in_err-put-clause-others c =
    λ table key none. ap (λ pairs. value_at pairs (own_key table key)) c.in_err-put.ensures.err
    ∙ unchanged c.loop-change.lasts c.args.lasts.now c.args.changes.now c.loop-change.change-index c.args.version table key (c.loop-change.invariant table key) none

pub loop-change-preserved : goal.loop-change-preserved
loop-change-preserved c =
    λ table key. noted_more c.loop-change.lasts c.put.new.self c.args.lasts.now c.args.changes.now c.loop-change.change-index c.args.version c.change-item.result c.in_ok-own.own table key (omega arith) c.change-item.is
    c.in_ok-own.ensures c.in_ok-put.ensures.ok (c.loop-change.invariant table key)
