use Rattle.ct_replay.proofs.Once.{same_records as the_law}
use Rattle.ct_replay.proofs.law.same_records.Goals as goal

pub returns : goal.returns
returns c = the_law
