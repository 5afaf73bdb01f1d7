use Rattle.ct_model_laws.proofs.NetTelling.{net_tells}
use Rattle.ct_model_laws.proofs.laws.net_tells.Goals as goal

pub returns : goal.returns
returns c = net_tells
