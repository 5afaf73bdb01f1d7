use Rattle.ct_machine_laws.proofs.Committing as laws
use Rattle.ct_machine_laws.proofs.laws.disables_commit_well.Goals as goal

pub returns : goal.returns
returns c = laws.disables_commit_well
