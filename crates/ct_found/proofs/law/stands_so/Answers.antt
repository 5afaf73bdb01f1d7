use Rattle.ct_found.proofs.Once.{stands_so as the_law}
use Rattle.ct_found.proofs.law.stands_so.Goals as goal

pub returns : goal.returns
returns c = the_law
