use Rattle.ct_bind_refusal_laws.proofs.Own
use Rattle.ct_bind_refusal_laws.proofs.laws.refuses_only_its_own.Goals as goal

pub returns : goal.returns
returns c = Own.refuses_only_its_own
