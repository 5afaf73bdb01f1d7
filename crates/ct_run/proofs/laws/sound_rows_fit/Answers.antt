use Rattle.ct_run.proofs.Soundness.{sound_rows_fit}
use Rattle.ct_run.proofs.laws.sound_rows_fit.Goals as goal

pub returns : goal.returns
returns c = sound_rows_fit
