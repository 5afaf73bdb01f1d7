use Rattle.ct_machine_laws.proofs.Seeing as laws
use Rattle.ct_machine_laws.proofs.laws.seen_is_valid.Goals as goal

pub returns : goal.returns
returns c = laws.seen_is_valid
