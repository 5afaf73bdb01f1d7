use Rattle.ct_found.proofs.Faults.{foreign_once as the_law}
use Rattle.ct_found.proofs.law.foreign_once.Goals as goal

pub returns : goal.returns
returns c = the_law
