use Rattle.ct_run.proofs.Runs.{one_transcript}
use Rattle.ct_run.proofs.laws.one_transcript.Goals as goal

pub returns : goal.returns
returns c = one_transcript
