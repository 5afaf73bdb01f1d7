use Rattle.ct_run.proofs.Soundness.{meant_are_read}
use Rattle.ct_run.proofs.laws.meant_are_read.Goals as goal

pub returns : goal.returns
returns c = meant_are_read
