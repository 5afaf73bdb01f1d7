use Rattle.ct_refusal_laws.proofs.Writes.{writes_refuse}
use Rattle.ct_refusal_laws.proofs.laws.writes_refuse.Goals as goal

pub returns : goal.returns
returns c = writes_refuse
