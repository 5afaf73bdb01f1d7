use Rattle.ct_recover.proofs.Settles.{settled_stands as the_law}
use Rattle.ct_recover.proofs.law.settled_stands.Goals as goal

pub returns : goal.returns
returns c = the_law
