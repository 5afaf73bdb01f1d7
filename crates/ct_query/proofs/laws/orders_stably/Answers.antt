use Rattle.ct_query.proofs.OrderLaws.{orders_stably}
use Rattle.ct_query.proofs.laws.orders_stably.Goals as goal

pub returns : goal.returns
returns c = orders_stably
