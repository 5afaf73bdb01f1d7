use Rattle.ct_machine_laws.proofs.Accepted as laws
use Rattle.ct_machine_laws.proofs.laws.declares_suit_their_variable.Goals as goal

pub returns : goal.returns
returns c = laws.declares_suit_their_variable
