use Rattle.std.proofs.Math.Nat.{le-max_left}
use Rattle.ct_model.specs.Apply.{apply}
use Rattle.ct_model_laws.proofs.Rises.{version_rises}
use Rattle.ct_model_laws.proofs.laws.never_lowers.Goals as goal

pub returns : goal.returns
unfolding apply
returns c = λ db entry applies. (version_rises entry.draws db.version entry.version applies.version, applies.time, le-max_left db.last_xdes entry.xdes)
