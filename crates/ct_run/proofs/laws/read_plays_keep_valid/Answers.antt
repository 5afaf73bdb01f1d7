use Rattle.ct_run.proofs.Soundness.{read_plays_keep_valid}
use Rattle.ct_run.proofs.laws.read_plays_keep_valid.Goals as goal

pub returns : goal.returns
returns c = read_plays_keep_valid
