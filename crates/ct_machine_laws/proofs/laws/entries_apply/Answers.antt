use Rattle.ct_machine_laws.proofs.Soundness as laws
use Rattle.ct_machine_laws.proofs.laws.entries_apply.Goals as goal

pub returns : goal.returns
returns c = laws.entries_apply
