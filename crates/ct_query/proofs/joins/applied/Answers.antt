use Rattle.std.proofs.Common.{ap, map}
use Rattle.std.proofs.lemmas.Slice.Zip.{Zip-more, either_empty_from_Zip}
use Rattle.ct_source.specs.Rows.{lent}
use Rattle.ct_query.specs.Joins.{row_of, side_by_side}
use Rattle.ct_query.proofs.JoinedRows.{applied-more, applied-all}
use Rattle.ct_query.proofs.joins.applied.Goals as goal

pub loop-left-preserved : goal.loop-left-preserved
loop-left-preserved c =
    let p = Zip-more c.loop-left.left-iterator c.next.new.self c.next.result (c.in-Some.left, c.in-Some.right) c.in-Some.is c.next.ensures.steps in
    applied-more (map (row_of 0 0) (side_by_side (lent c.args.lefts.now) (lent c.args.rights.now))) c.loop-left.rows _ _ _ _ _ c.in-Some.left.now.now c.in-Some.right.now.now c.in_ok-pair.field-0 c.loop-left.invariant (ap lent p.0) (ap lent p.1) c.in_ok-pair.ensures c.in_ok-push.ensures.ok

pub returns : goal.returns
returns c =
    applied-all (λ one. one.now) (λ one. one.now) (map (row_of 0 0) (side_by_side (lent c.args.lefts.now) (lent c.args.rights.now))) c.loop-left.rows _ _ c.loop-left.invariant (either_empty_from_Zip c.loop-left.left-iterator c.next.new.self c.next.result c.in-None.is c.next.ensures.steps)
