use Rattle.ct_machine_laws.proofs.Soundness as laws
use Rattle.ct_machine_laws.proofs.laws.opens_sound.Goals as goal

pub returns : goal.returns
returns c = laws.opens_sound
