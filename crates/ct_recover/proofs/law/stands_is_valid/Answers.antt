use Rattle.ct_recover.proofs.Standing.{stands_is_valid as the_law}
use Rattle.ct_recover.proofs.law.stands_is_valid.Goals as goal

pub returns : goal.returns
returns c = the_law
