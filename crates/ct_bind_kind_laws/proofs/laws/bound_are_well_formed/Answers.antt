use Rattle.ct_bind_kind_laws.proofs.Binding
use Rattle.ct_bind_kind_laws.proofs.laws.bound_are_well_formed.Goals as goal

pub returns : goal.returns
returns c = Binding.bound_are_well_formed
