use Rattle.ct_bind_refusal_laws.proofs.Taken
use Rattle.ct_bind_refusal_laws.proofs.laws.bound_have_no_cause.Goals as goal

pub returns : goal.returns
returns c = Taken.bound_have_no_cause
