use Rattle.ct_machine_laws.proofs.Committing as laws
use Rattle.ct_machine_laws.proofs.laws.selects_commit_well.Goals as goal

pub returns : goal.returns
returns c = laws.selects_commit_well
