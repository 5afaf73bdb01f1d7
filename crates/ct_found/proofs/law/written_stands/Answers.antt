use Rattle.ct_found.proofs.Stays.{written_stands as the_law}
use Rattle.ct_found.proofs.law.written_stands.Goals as goal

pub returns : goal.returns
returns c = the_law
