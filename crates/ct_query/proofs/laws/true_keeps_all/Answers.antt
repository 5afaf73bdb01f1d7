use Rattle.ct_query.proofs.JoinLaws.{true_keeps_all}
use Rattle.ct_query.proofs.laws.true_keeps_all.Goals as goal

pub returns : goal.returns
returns c = true_keeps_all
