use Rattle.std.proofs.Common.{◌≡◌, true, List, map, Ok, sym, ap, ◌∙◌}
use Rattle.std.proofs.lemmas.Result.{err_from_is_err_and}
use Rattle.ct_types.specs.declared.value.Row.{Row}
use Rattle.ct_expr.specs.Meaning.{World}
use Rattle.ct_source.specs.Rows.{lent}
use Rattle.ct_source.specs.Sources.{source_rows}
use Rattle.ct_query.specs.Joins.{row_of, side_by_side}
use Rattle.ct_scan.specs.Lists.{all_of}
use Rattle.ct_query.specs.declared.side.Side.TheVariants as side
use Rattle.ct_query.specs.Steps.{rows_of}
use Rattle.ct_query.proofs.JoinedRows.{one_rows, inner_rows, left_rows, right_rows, applied_rows, answer-over, answer-stops}
use Rattle.ct_query.proofs.query.select.Goals as goal

pub returns-in-One : goal.returns-in-One
returns-in-One g c =
    let plan = c.args.plan.now in let left = source_rows c.args.left in let right = source_rows c.args.right in
    let world : World = record { env = c.args.env.now; versions = g.L.Versions.row_of c.args.versions.now } in
    rw (answer-over world plan left right _ (sym (one_rows world plan left right c.in-One.is))) c.one_source.ensures

pub returns-in_err-rows-in-Inner : goal.returns-in_err-rows-in-Inner
returns-in_err-rows-in-Inner g c =
    let plan = c.args.plan.now in let left = source_rows c.args.left in let right = source_rows c.args.right in
    let world : World = record { env = c.args.env.now; versions = g.L.Versions.row_of c.args.versions.now } in
    let p = err_from_is_err_and c.from_residual.result c.from_residual.ensures.1 in
    rw (p.1, p.2) (λ ne. answer-stops world plan left right c.in_err-rows-in-Inner.field-0.0 (sym (inner_rows world plan left right c.in-Inner.is) ∙ c.in_err-rows-in-Inner.ensures ne))

pub returns-in_ok-rows-in-Inner : goal.returns-in_ok-rows-in-Inner
returns-in_ok-rows-in-Inner g c =
    let plan = c.args.plan.now in let left = source_rows c.args.left in let right = source_rows c.args.right in
    let world : World = record { env = c.args.env.now; versions = g.L.Versions.row_of c.args.versions.now } in
    rw (answer-over world plan left right c.in_ok-rows-in-Inner.rows (sym (inner_rows world plan left right c.in-Inner.is) ∙ c.in_ok-rows-in-Inner.ensures)) c.joined_answer.ensures

pub returns-in_err-rows-in-Left : goal.returns-in_err-rows-in-Left
returns-in_err-rows-in-Left g c =
    let plan = c.args.plan.now in let left = source_rows c.args.left in let right = source_rows c.args.right in
    let world : World = record { env = c.args.env.now; versions = g.L.Versions.row_of c.args.versions.now } in
    let lent_all : lent c.as_slice-lefts.result.now ≡ left = ap lent c.as_slice-lefts.ensures ∙ c.in_ok-lefts-in-Left.ensures in
    let p = err_from_is_err_and c.from_residual-in_err-rows-in-Left.result c.from_residual-in_err-rows-in-Left.ensures.1 in
    rw (p.1, p.2) (λ ne. answer-stops world plan left right c.in_err-rows-in-Left.field-0.0 (sym (left_rows world plan left right c.in-Left.is) ∙ ap (all_of (rows_of world plan side.Left true right)) (sym lent_all) ∙ c.in_err-rows-in-Left.ensures ne))

pub returns-in_ok-rows-in-Left : goal.returns-in_ok-rows-in-Left
returns-in_ok-rows-in-Left g c =
    let plan = c.args.plan.now in let left = source_rows c.args.left in let right = source_rows c.args.right in
    let world : World = record { env = c.args.env.now; versions = g.L.Versions.row_of c.args.versions.now } in
    let lent_all : lent c.as_slice-lefts.result.now ≡ left = ap lent c.as_slice-lefts.ensures ∙ c.in_ok-lefts-in-Left.ensures in
    rw (answer-over world plan left right c.in_ok-rows-in-Left.rows (sym (left_rows world plan left right c.in-Left.is) ∙ ap (all_of (rows_of world plan side.Left true right)) (sym lent_all) ∙ c.in_ok-rows-in-Left.ensures)) c.joined_answer-in-Left.ensures

pub returns-in_err-rows-in-Right : goal.returns-in_err-rows-in-Right
returns-in_err-rows-in-Right g c =
    let plan = c.args.plan.now in let left = source_rows c.args.left in let right = source_rows c.args.right in
    let world : World = record { env = c.args.env.now; versions = g.L.Versions.row_of c.args.versions.now } in
    let lent_all : lent c.as_slice-rights.result.now ≡ right = ap lent c.as_slice-rights.ensures ∙ c.in_ok-rights-in-Right.ensures in
    let p = err_from_is_err_and c.from_residual-in_err-rows-in-Right.result c.from_residual-in_err-rows-in-Right.ensures.1 in
    rw (p.1, p.2) (λ ne. answer-stops world plan left right c.in_err-rows-in-Right.field-0.0 (sym (right_rows world plan left right c.in-Right.is) ∙ ap (all_of (rows_of world plan side.Right true left)) (sym lent_all) ∙ c.in_err-rows-in-Right.ensures ne))

pub returns-in_ok-rows-in-Right : goal.returns-in_ok-rows-in-Right
returns-in_ok-rows-in-Right g c =
    let plan = c.args.plan.now in let left = source_rows c.args.left in let right = source_rows c.args.right in
    let world : World = record { env = c.args.env.now; versions = g.L.Versions.row_of c.args.versions.now } in
    let lent_all : lent c.as_slice-rights.result.now ≡ right = ap lent c.as_slice-rights.ensures ∙ c.in_ok-rights-in-Right.ensures in
    rw (answer-over world plan left right c.in_ok-rows-in-Right.rows (sym (right_rows world plan left right c.in-Right.is) ∙ ap (all_of (rows_of world plan side.Right true left)) (sym lent_all) ∙ c.in_ok-rows-in-Right.ensures)) c.joined_answer-in-Right.ensures

pub returns-in_ok-rows-in-Apply : goal.returns-in_ok-rows-in-Apply
returns-in_ok-rows-in-Apply g c =
    let plan = c.args.plan.now in let left = source_rows c.args.left in let right = source_rows c.args.right in
    let world : World = record { env = c.args.env.now; versions = g.L.Versions.row_of c.args.versions.now } in
    let rights = lent c.as_slice-in-Apply.result.now in
    let lefts_all : lent c.as_slice.result.now ≡ left = ap lent c.as_slice.ensures ∙ c.in_ok-lefts-in-Apply.ensures in
    let rights_all : rights ≡ right = ap lent c.as_slice-in-Apply.ensures ∙ c.in_ok-rights-in-Apply.ensures in
    let rows : c.in_ok-rows-in-Apply.rows ≡ map (row_of 0 0) (side_by_side left right) =
    c.in_ok-rows-in-Apply.ensures ∙ ap (λ (some : List Row). map (row_of 0 0) (side_by_side some rights)) lefts_all ∙ ap (λ (some : List Row). map (row_of 0 0) (side_by_side left some)) rights_all in
    rw (answer-over world plan left right c.in_ok-rows-in-Apply.rows (sym (applied_rows world plan left right c.in-Apply.is) ∙ ap Ok (sym rows))) c.joined_answer-in-Apply.ensures
