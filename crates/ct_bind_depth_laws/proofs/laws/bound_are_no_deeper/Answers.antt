use Rattle.ct_bind_depth_laws.proofs.Binding
use Rattle.ct_bind_depth_laws.proofs.laws.bound_are_no_deeper.Goals as goal

pub returns : goal.returns
returns c = Binding.bound_are_no_deeper
