use Rattle.ct_found.proofs.Meeting.{one_checkpoint as the_law}
use Rattle.ct_found.proofs.law.one_checkpoint.Goals as goal

pub returns : goal.returns
returns c = the_law
