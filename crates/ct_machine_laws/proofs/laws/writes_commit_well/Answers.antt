use Rattle.ct_machine_laws.proofs.Writing as laws
use Rattle.ct_machine_laws.proofs.laws.writes_commit_well.Goals as goal

pub returns : goal.returns
returns c = laws.writes_commit_well
