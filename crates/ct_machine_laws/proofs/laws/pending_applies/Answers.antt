use Rattle.ct_machine_laws.proofs.Soundness as laws
use Rattle.ct_machine_laws.proofs.laws.pending_applies.Goals as goal

pub returns : goal.returns
returns c = laws.pending_applies
