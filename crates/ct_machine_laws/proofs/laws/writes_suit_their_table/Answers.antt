use Rattle.ct_machine_laws.proofs.Accepted
use Rattle.ct_machine_laws.proofs.laws.writes_suit_their_table.Goals as goal

pub returns : goal.returns
returns c = Accepted.writes_suit_their_table
