use Rattle.ct_replay.proofs.Once.{one_replay as the_law}
use Rattle.ct_replay.proofs.law.one_replay.Goals as goal

pub returns : goal.returns
returns c = the_law
