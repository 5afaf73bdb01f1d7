use Rattle.ct_found.proofs.Stays.{begun_stands as the_law}
use Rattle.ct_found.proofs.law.begun_stands.Goals as goal

pub returns : goal.returns
returns c = the_law
