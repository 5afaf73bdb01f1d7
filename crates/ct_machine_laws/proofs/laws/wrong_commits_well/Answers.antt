use Rattle.ct_machine_laws.proofs.Committing as laws
use Rattle.ct_machine_laws.proofs.laws.wrong_commits_well.Goals as goal

pub returns : goal.returns
returns c = laws.wrong_commits_well
