use Rattle.ct_found.proofs.Stays.{only_named as the_law}
use Rattle.ct_found.proofs.law.only_named.Goals as goal

pub returns : goal.returns
returns c = the_law
