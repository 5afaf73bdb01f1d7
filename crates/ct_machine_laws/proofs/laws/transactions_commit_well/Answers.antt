use Rattle.ct_machine_laws.proofs.Committing as laws
use Rattle.ct_machine_laws.proofs.laws.transactions_commit_well.Goals as goal

pub returns : goal.returns
returns c = laws.transactions_commit_well
