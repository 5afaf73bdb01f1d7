use Rattle.ct_machine_laws.proofs.Accepted as laws
use Rattle.ct_machine_laws.proofs.laws.sets_suit_their_variable.Goals as goal

pub returns : goal.returns
returns c = laws.sets_suit_their_variable
