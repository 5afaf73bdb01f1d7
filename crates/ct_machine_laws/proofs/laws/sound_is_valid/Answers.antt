use Rattle.ct_machine_laws.proofs.Soundness as laws
use Rattle.ct_machine_laws.proofs.laws.sound_is_valid.Goals as goal

pub returns : goal.returns
returns c = laws.sound_is_valid
