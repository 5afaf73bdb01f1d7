use Rattle.ct_value_laws.proofs.Walked
use Rattle.ct_value_laws.proofs.laws.walked_are_representable.Goals as goal

pub returns : goal.returns
returns c = Walked.walked_are_representable
