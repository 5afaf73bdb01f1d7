use Rattle.ct_query.proofs.OrderLaws.{one_order}
use Rattle.ct_query.proofs.laws.one_order.Goals as goal

pub returns : goal.returns
returns c = one_order
