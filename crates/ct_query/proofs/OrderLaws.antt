-- The laws of ORDER BY.
use Rattle.ct_query.specs.Answer.{comes_before}
use Rattle.ct_query.specs.Laws.{OrdersStably, OneOrder}
use Rattle.ct_query.proofs.InOrder.{in_order-same, in_order-sorted, in_order-stable, only_order}
use Rattle.ct_query.proofs.KeyOrder.{comes_before_order}

pub orders_stably : OrdersStably
orders_stably parts rows = record {
  same = in_order-same (comes_before parts) rows;
  sorted = in_order-sorted (comes_before parts) (comes_before_order parts) rows;
  stable = in_order-stable (comes_before parts) (comes_before_order parts) rows;
}

pub one_order : OneOrder
one_order parts rows after is = only_order (comes_before parts) (comes_before_order parts) rows after is.sorted is.stable
