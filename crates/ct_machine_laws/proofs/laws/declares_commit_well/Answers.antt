use Rattle.ct_machine_laws.proofs.Keeping as laws
use Rattle.ct_machine_laws.proofs.laws.declares_commit_well.Goals as goal

pub returns : goal.returns
returns c = laws.declares_commit_well
