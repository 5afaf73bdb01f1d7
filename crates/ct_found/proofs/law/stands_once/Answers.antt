use Rattle.ct_found.proofs.Once.{stands_once as the_law}
use Rattle.ct_found.proofs.law.stands_once.Goals as goal

pub returns : goal.returns
returns c = the_law
