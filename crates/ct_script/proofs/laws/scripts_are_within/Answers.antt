use Rattle.ct_script.proofs.Sizes.{reads_within}
use Rattle.ct_script.proofs.laws.scripts_are_within.Goals as goal

pub returns : goal.returns
returns c = reads_within
