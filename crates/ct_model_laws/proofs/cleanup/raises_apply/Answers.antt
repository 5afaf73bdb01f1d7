use Rattle.ct_model_laws.proofs.Raising.{raises_apply}
use Rattle.ct_model_laws.proofs.cleanup.raises_apply.Goals as goal

pub returns : goal.returns
returns c = raises_apply
