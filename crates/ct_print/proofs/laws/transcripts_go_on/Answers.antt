use Rattle.ct_print.proofs.Transcripts.{transcript-push}
use Rattle.ct_print.proofs.laws.transcripts_go_on.Goals as goal

pub returns : goal.returns
returns c = transcript-push
