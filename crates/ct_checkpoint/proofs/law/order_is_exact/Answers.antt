use Rattle.ct_checkpoint.proofs.Order as proof
use Rattle.ct_checkpoint.proofs.law.order_is_exact.Goals as goal

pub returns : goal.returns
returns c = proof.order_is_exact
