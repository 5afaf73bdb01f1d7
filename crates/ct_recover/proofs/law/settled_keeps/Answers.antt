use Rattle.ct_recover.proofs.Settles.{settled_keeps as the_law}
use Rattle.ct_recover.proofs.law.settled_keeps.Goals as goal

pub returns : goal.returns
returns c = the_law
