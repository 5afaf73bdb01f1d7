use Rattle.ct_machine_laws.proofs.Soundness as laws
use Rattle.ct_machine_laws.proofs.laws.one_holds.Goals as goal

pub returns : goal.returns
returns c = laws.one_holds
