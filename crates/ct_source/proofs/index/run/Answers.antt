use Rattle.std.proofs.Common.{ap, ◌∙◌}
use Rattle.ct_source.specs.Rows.{lent}
use Rattle.ct_source.proofs.Sorted.{in_order, run_is}
use Rattle.ct_source.proofs.index.run.Goals as goal

pub part-requires-clause-order : goal.part-requires-clause-order
part-requires-clause-order c =
    in_order c.args.at c.args.value.now c.args.rows.now c.count_below-low.result c.count_at_most-high.result c.count_below-low.ensures.within c.count_below-low.ensures.parted c.count_at_most-high.ensures.parted

pub returns : goal.returns
returns c =
    let at = c.args.at in let value = c.args.value.now in let rows = c.args.rows.now in let low = c.count_below-low.result in let high = c.count_at_most-high.result in
    let order = in_order at value rows low high c.count_below-low.ensures.within c.count_below-low.ensures.parted c.count_at_most-high.ensures.parted in
    ap lent c.part.ensures ∙ run_is at value rows low high order c.count_below-low.ensures.parted c.count_at_most-high.ensures.parted
