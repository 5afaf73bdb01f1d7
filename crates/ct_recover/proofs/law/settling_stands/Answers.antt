use Rattle.ct_recover.proofs.Settles.{settling_stands as the_law}
use Rattle.ct_recover.proofs.law.settling_stands.Goals as goal

pub returns : goal.returns
returns c = the_law
