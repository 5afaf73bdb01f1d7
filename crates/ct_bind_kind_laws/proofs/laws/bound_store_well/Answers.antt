use Rattle.ct_bind_kind_laws.proofs.Storing
use Rattle.ct_bind_kind_laws.proofs.laws.bound_store_well.Goals as goal

pub returns : goal.returns
returns c = Storing.bound_store_well
