use Rattle.ct_machine_laws.proofs.Settings as laws
use Rattle.ct_machine_laws.proofs.laws.settings_apply.Goals as goal

pub returns : goal.returns
returns c = laws.settings_apply
