use Rattle.std.proofs.Common.{rules}
use denote.Ref.{Bor}
use Rattle.ct_types.specs.Order.{value_cmp}
use Rattle.ct_types.specs.declared.value.Row.{Row}
use Rattle.ct_source.specs.Cells.{cell}
use Rattle.ct_source.specs.Indexed.{comes_before}
use Rattle.ct_source.proofs.Sorted.{column_order, compares_by, stably_sorted}
use Rattle.ct_source.proofs.index.sorted.Goals as goal

pub returns : goal.returns
returns c =
    let at = c.args.at in
    stably_sorted at c.args.rows.items c.sort_by.new.self.items
    (c.in_ok-sort_by.ensures.sorted (comes_before at) (column_order at) (compares_by (λ (x y : Bor Row). value_cmp (cell at x.now) (cell at y.now)) (λ a r q k. search rules)))
    (c.sort_by.ensures.stable (comes_before at) (column_order at) (compares_by (λ (x y : Bor Row). value_cmp (cell at x.now) (cell at y.now)) (λ a r q k. search rules)))
