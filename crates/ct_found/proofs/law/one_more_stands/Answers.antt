use Rattle.ct_found.proofs.Stays.{one_more_stands as the_law}
use Rattle.ct_found.proofs.law.one_more_stands.Goals as goal

pub returns : goal.returns
returns c = the_law
