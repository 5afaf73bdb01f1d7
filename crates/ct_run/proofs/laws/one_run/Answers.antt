use Rattle.ct_run.proofs.Runs.{one_run}
use Rattle.ct_run.proofs.laws.one_run.Goals as goal

pub returns : goal.returns
returns c = one_run
