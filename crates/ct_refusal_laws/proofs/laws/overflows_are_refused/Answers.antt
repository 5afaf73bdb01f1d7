use Rattle.ct_refusal_laws.proofs.Exactly.{overflows_are_refused}
use Rattle.ct_refusal_laws.proofs.laws.overflows_are_refused.Goals as goal

pub returns : goal.returns
returns c = overflows_are_refused
