use Rattle.ct_model_laws.proofs.InTurn.{replay-valid}
use Rattle.ct_model_laws.proofs.laws.replay_stays_valid.Goals as goal

pub returns : goal.returns
returns c = replay-valid
