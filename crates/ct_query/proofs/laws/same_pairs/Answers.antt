use Rattle.ct_query.proofs.JoinLaws.{same_pairs}
use Rattle.ct_query.proofs.laws.same_pairs.Goals as goal

pub returns : goal.returns
returns c = same_pairs
