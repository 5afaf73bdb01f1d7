use Rattle.std.proofs.Common.{◌≡◌, ◌-◌, IfOk, Some, None, take, sym, ap, ◌∙◌, subst, arith}
use Rattle.std.specs.Option.{option_copied, option_map}
use Rattle.ct_model.specs.Versions.{version_row_of}
use Rattle.ct_source.specs.Rows.{lent}
use Rattle.ct_database.specs.Steps.{dated, last_here, last_in, or_first}
use Rattle.ct_database.proofs.Lasts.{walked_at}
use Rattle.ct_database.proofs.last.walked_last.Goals as goal

pub returns-in-Some : goal.returns-in-Some
returns-in-Some c =
    let one = c.index-commits-at.result.now in
    let front = last_in c.args.table c.args.key.now (lent (take (c.loop-at.at - 1) c.args.commits.now)) in
    let has : last_here c.args.table c.index-commits-at.result.now.version c.args.key.now c.index-commits-at.result.now.changes ≡ Some (dated c.index-commits-at.result.now.version c.in-Some.change.now) =
    sym
    (ap (λ found. option_map (dated one.version) (option_copied found)) (sym c.in-Some.is) ∙ c.last_change.ensures one.version
    ∙ ap (last_here c.args.table one.version c.args.key.now) c.as_slice.ensures) in
    subst (λ row. IfOk c.row_of.result (λ made. made ≡ row))
    (ap version_row_of
    (sym
    (c.loop-at.invariant.same
    ∙ walked_at c.args.table c.args.key.now c.args.commits.now c.loop-at.at c.index-commits-at.result c.loop-at-test.true c.loop-at.invariant.within c.index-commits-at.is
    ∙ ap (or_first front) has)))
    c.row_of.ensures

pub loop-at-preserved : goal.loop-at-preserved
loop-at-preserved c =
    let one = c.index-commits-at.result.now in
    let front = last_in c.args.table c.args.key.now (lent (take (c.loop-at.at - 1) c.args.commits.now)) in
    let none : last_here c.args.table c.index-commits-at.result.now.version c.args.key.now c.index-commits-at.result.now.changes ≡ None =
    sym
    (ap (λ found. option_map (dated one.version) (option_copied found)) (sym c.in_default.is) ∙ c.last_change.ensures one.version
    ∙ ap (last_here c.args.table one.version c.args.key.now) c.as_slice.ensures) in
    record {
      within = omega arith;
      same =
          c.loop-at.invariant.same
          ∙ walked_at c.args.table c.args.key.now c.args.commits.now c.loop-at.at c.index-commits-at.result c.loop-at-test.true c.loop-at.invariant.within c.index-commits-at.is
          ∙ ap (or_first front) none;
    }
