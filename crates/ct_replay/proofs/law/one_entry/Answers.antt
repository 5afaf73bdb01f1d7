use Rattle.ct_replay.proofs.Once.{one_entry as the_law}
use Rattle.ct_replay.proofs.law.one_entry.Goals as goal

pub returns : goal.returns
returns c = the_law
