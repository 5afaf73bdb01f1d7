use Rattle.ct_model_laws.proofs.InTurn.{no_db_valid}
use Rattle.ct_model_laws.proofs.laws.empty_is_valid.Goals as goal

pub returns : goal.returns
returns c = no_db_valid
