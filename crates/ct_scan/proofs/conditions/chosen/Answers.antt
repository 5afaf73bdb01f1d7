use Rattle.std.proofs.Common.{ap, ◌∙◌, arith}
use Rattle.std.proofs.lemmas.List.{map-append}
use Rattle.std.proofs.lemmas.Result.{err_from_is_err_and}
use Rattle.ct_source.specs.Rows.{lent}
use Rattle.ct_scan.proofs.Asked.{only-takes, only-skips, only-fails}
use Rattle.ct_scan.proofs.conditions.chosen.Goals as goal
use Rattle.ct_scan.proofs.conditions.chosen.Goals.{then-branch+in_ok-push, else-branch}

pub returns-in_err-holds : goal.returns-in_err-holds
returns-in_err-holds g c =
    let p = err_from_is_err_and c.from_residual.result c.from_residual.ensures.1 in
    rw (p.1, p.2) (λ ne. only-fails _ (λ one. one.now) c.args.rows.now c.loop-row.row-index c.row-item.result (lent c.loop-row.found) c.in_err-holds.field-0.0 (omega arith) c.row-item.is c.loop-row.invariant (c.in_err-holds.ensures ne))

pub loop-row-preserved : goal.loop-row-preserved
loop-row-preserved g c =
    let rows = c.args.rows.now in let i = c.loop-row.row-index in let row = c.row-item.result in let found = lent c.loop-row.found in
    elim c.if-branch.branch [
      | then-branch+in_ok-push w ↦ only-takes _ (λ one. one.now) rows i row found _ (omega arith) c.row-item.is c.loop-row.invariant (let e = c.in_ok-holds.ensures in let t = w.if-branch.true in cc) (ap lent (w.found-is ∙ w.in_ok-push.ensures) ∙ map-append _ c.loop-row.found _)
      | else-branch w ↦ only-skips _ (λ one. one.now) rows i row found _ (omega arith) c.row-item.is c.loop-row.invariant (let e = c.in_ok-holds.ensures in let t = w.if-branch.false in cc) (ap lent w.found-is)
    ]
