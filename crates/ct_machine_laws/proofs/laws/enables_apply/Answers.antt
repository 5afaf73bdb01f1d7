use Rattle.ct_machine_laws.proofs.Switches as laws
use Rattle.ct_machine_laws.proofs.laws.enables_apply.Goals as goal

pub returns : goal.returns
returns c = laws.enables_apply
