use Rattle.ct_bind_depth_laws.proofs.Walks
use Rattle.ct_bind_depth_laws.proofs.laws.walked_are_no_deeper.Goals as goal

pub returns : goal.returns
returns c = Walks.walked_are_no_deeper
