use Rattle.ct_fit_laws.proofs.Variables
use Rattle.ct_fit_laws.proofs.laws.variables_stay_representable.Goals as goal

pub returns : goal.returns
returns c = Variables.variables_stay_representable
