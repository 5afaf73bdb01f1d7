use Rattle.std.proofs.Common.{arith}
use Rattle.std.proofs.lemmas.Result.{err_from_is_err_and}
use Rattle.ct_query.proofs.Members.{only_of-takes, only_of-skips, only_of-fails}
use Rattle.ct_query.proofs.joins.true_pairs.Goals as goal
use Rattle.ct_query.proofs.joins.true_pairs.Goals.{then-branch+in_ok-made+in_ok-push, else-branch}

pub returns-in_err-on_holds : goal.returns-in_err-on_holds
returns-in_err-on_holds g c =
    let p = err_from_is_err_and c.from_residual.result c.from_residual.ensures.1 in
    rw (p.1, p.2) (λ ne. only_of-fails _ _ (λ one. one.now) c.args.others.now c.loop-other.other-index c.other-item.result c.loop-other.found c.in_err-on_holds.field-0.0 (omega arith) c.other-item.is c.loop-other.invariant (let e = c.in_err-on_holds.ensures ne in cc))

pub loop-other-preserved : goal.loop-other-preserved
loop-other-preserved g c =
    let others = c.args.others.now in let i = c.loop-other.other-index in let other = c.other-item.result in let found = c.loop-other.found in
    elim c.if-branch.branch [
      | then-branch+in_ok-made+in_ok-push w ↦ only_of-takes _ _ (λ one. one.now) others i other found _ (omega arith) c.other-item.is c.loop-other.invariant (let e = c.in_ok-on_holds.ensures in let t = w.if-branch.true in cc) (let r = w.in_ok-made.ensures in let p = w.in_ok-push.ensures in let s = w.found-is in cc)
      | else-branch w ↦ only_of-skips _ _ (λ one. one.now) others i other found _ (omega arith) c.other-item.is c.loop-other.invariant (let e = c.in_ok-on_holds.ensures in let t = w.if-branch.false in cc) w.found-is
    ]
