use Rattle.ct_model_laws.proofs.Cutting.{cutoff_is_greatest}
use Rattle.ct_model_laws.proofs.cleanup.cutoff_is_greatest.Goals as goal

pub returns : goal.returns
returns c = cutoff_is_greatest
