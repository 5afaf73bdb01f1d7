use Rattle.ct_model_laws.proofs.Validity.{stays_valid}
use Rattle.ct_model_laws.proofs.laws.stays_valid.Goals as goal

pub returns : goal.returns
returns c = stays_valid
