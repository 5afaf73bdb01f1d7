use Rattle.ct_log.proofs.OneReading as lemma
use Rattle.ct_log.proofs.law.logs_do_not_break.Goals as goal

pub returns : goal.returns
returns c = lemma.logs_do_not_break
