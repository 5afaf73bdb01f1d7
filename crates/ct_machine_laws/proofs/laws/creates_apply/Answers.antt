use Rattle.ct_machine_laws.proofs.Switches as laws
use Rattle.ct_machine_laws.proofs.laws.creates_apply.Goals as goal

pub returns : goal.returns
returns c = laws.creates_apply
