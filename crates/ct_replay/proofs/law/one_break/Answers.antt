use Rattle.ct_replay.proofs.Once.{one_break as the_law}
use Rattle.ct_replay.proofs.law.one_break.Goals as goal

pub returns : goal.returns
returns c = the_law
