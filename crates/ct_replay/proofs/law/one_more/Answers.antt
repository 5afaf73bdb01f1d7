use Rattle.ct_replay.proofs.Once.{one_more as the_law}
use Rattle.ct_replay.proofs.law.one_more.Goals as goal

pub returns : goal.returns
returns c = the_law
