use Rattle.std.proofs.lemmas.Result.{err_from_is_err_and}
use Rattle.ct_write.proofs.Each.{in_turn_more, in_turn_stops, all_more}
use Rattle.ct_write.proofs.fitting.fit_all.Goals as goal

pub returns-in_err-fit_row : goal.returns-in_err-fit_row
returns-in_err-fit_row c =
    let p = err_from_is_err_and c.from_residual.result c.from_residual.ensures.1 in
    rw (p.1, p.2)
    (record { gives = in_turn_stops _ _ _ c.changed-item.result _ c.loop-changed-test.true c.changed-item.is c.loop-changed.invariant.passed c.in_err-fit_row.ensures.gives; fits = tt })

pub loop-changed-preserved : goal.loop-changed-preserved
loop-changed-preserved c = record {
  passed = in_turn_more _ _ _ c.changed-item.result c.loop-changed-test.true c.changed-item.is c.loop-changed.invariant.passed c.in_ok-fit_row.ensures.gives;
  fit = all_more _ _ _ c.changed-item.result c.loop-changed-test.true c.changed-item.is c.loop-changed.invariant.fit c.in_ok-fit_row.ensures.fits;
}
