use Rattle.ct_replay.proofs.Once.{replays_do_not_break as the_law}
use Rattle.ct_replay.proofs.law.replays_do_not_break.Goals as goal

pub returns : goal.returns
returns c = the_law
