use Rattle.ct_run.proofs.Soundness.{meant_plays_keep_valid}
use Rattle.ct_run.proofs.laws.meant_plays_keep_valid.Goals as goal

pub returns : goal.returns
returns c = meant_plays_keep_valid
