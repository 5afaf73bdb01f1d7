use Rattle.std.proofs.Common.{rules}
use Rattle.ct_query.specs.Answer.{comes_before}
use Rattle.ct_query.specs.Sorting.{keys_cmp}
use Rattle.ct_query.proofs.InOrder.{only_order}
use Rattle.ct_source.proofs.Sorted.{compares_by}
use Rattle.ct_query.proofs.KeyOrder.{comes_before_order}
use Rattle.ct_query.proofs.sorting.sorted.Goals as goal

pub returns : goal.returns
returns c =
    let parts = c.args.parts.now in
    only_order (comes_before parts) (comes_before_order parts) c.args.rows.items c.sort_by.new.self.items
    (c.in_ok-sort_by.ensures.sorted (comes_before parts) (comes_before_order parts) (compares_by (λ x y. keys_cmp parts x.keys y.keys) (λ a r q k. search rules)))
    (c.sort_by.ensures.stable (comes_before parts) (comes_before_order parts) (compares_by (λ x y. keys_cmp parts x.keys y.keys) (λ a r q k. search rules)))
