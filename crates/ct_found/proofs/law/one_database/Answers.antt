use Rattle.ct_found.proofs.Gathering.{one_database as the_law}
use Rattle.ct_found.proofs.law.one_database.Goals as goal

pub returns : goal.returns
returns c = the_law
