use Rattle.ct_bind_kind_laws.proofs.Walks
use Rattle.ct_bind_kind_laws.proofs.laws.walked_are_well_formed.Goals as goal

pub returns : goal.returns
returns c = Walks.walked_are_well_formed
