use Rattle.ct_machine_laws.proofs.Keeping
use Rattle.ct_machine_laws.proofs.laws.keeps_sound.Goals as goal

pub returns : goal.returns
returns c = Keeping.keeps_sound
