use Rattle.ct_found.proofs.Faults.{standing_is_not_foreign as the_law}
use Rattle.ct_found.proofs.law.standing_is_not_foreign.Goals as goal

pub returns : goal.returns
returns c = the_law
