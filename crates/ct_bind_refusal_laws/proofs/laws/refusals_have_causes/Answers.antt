use Rattle.ct_bind_refusal_laws.proofs.Binding
use Rattle.ct_bind_refusal_laws.proofs.laws.refusals_have_causes.Goals as goal

pub returns : goal.returns
returns c = Binding.refusals_have_causes
