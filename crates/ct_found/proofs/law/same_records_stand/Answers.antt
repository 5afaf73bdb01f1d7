use Rattle.ct_found.proofs.Stays.{same_records_stand as the_law}
use Rattle.ct_found.proofs.law.same_records_stand.Goals as goal

pub returns : goal.returns
returns c = the_law
