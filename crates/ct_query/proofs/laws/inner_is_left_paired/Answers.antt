use Rattle.ct_query.proofs.JoinLaws.{inner_is_left_paired}
use Rattle.ct_query.proofs.laws.inner_is_left_paired.Goals as goal

pub returns : goal.returns
returns c = inner_is_left_paired
