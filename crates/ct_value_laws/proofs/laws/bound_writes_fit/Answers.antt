use Rattle.ct_value_laws.proofs.Writing
use Rattle.ct_value_laws.proofs.laws.bound_writes_fit.Goals as goal

pub returns : goal.returns
returns c = Writing.bound_writes_fit
