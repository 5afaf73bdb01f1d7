use Rattle.ct_replay.proofs.Once.{is_replay as the_law}
use Rattle.ct_replay.proofs.law.is_replay.Goals as goal

pub returns : goal.returns
returns c = the_law
