use Rattle.ct_machine_laws.proofs.Switches as laws
use Rattle.ct_machine_laws.proofs.laws.truncates_apply.Goals as goal

pub returns : goal.returns
returns c = laws.truncates_apply
