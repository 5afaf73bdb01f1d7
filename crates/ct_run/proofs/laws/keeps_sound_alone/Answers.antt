use Rattle.ct_run.proofs.Soundness.{keeps_sound_alone}
use Rattle.ct_run.proofs.laws.keeps_sound_alone.Goals as goal

pub returns : goal.returns
returns c = keeps_sound_alone
