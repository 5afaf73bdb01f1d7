use Rattle.ct_machine_laws.proofs.Soundness as laws
use Rattle.ct_machine_laws.proofs.laws.plays_keep_valid.Goals as goal

pub returns : goal.returns
returns c = laws.plays_keep_valid
