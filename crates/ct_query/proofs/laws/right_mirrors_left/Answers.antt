use Rattle.ct_query.proofs.JoinLaws.{right_mirrors_left}
use Rattle.ct_query.proofs.laws.right_mirrors_left.Goals as goal

pub returns : goal.returns
returns c = right_mirrors_left
