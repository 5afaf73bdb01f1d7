use Rattle.ct_machine_laws.proofs.Creating as creating
use Rattle.ct_machine_laws.proofs.laws.creates_definable.Goals as goal

pub returns : goal.returns
returns c = creating.creates_definable
