use Rattle.ct_bind_kind_laws.proofs.Sound
use Rattle.ct_bind_kind_laws.proofs.laws.valid_are_sound.Goals as goal

pub returns : goal.returns
returns c = Sound.valid_are_sound
