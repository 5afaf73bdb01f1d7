use Rattle.ct_run.proofs.Runs.{completes}
use Rattle.ct_run.proofs.laws.completes.Goals as goal

pub returns : goal.returns
returns c = completes
