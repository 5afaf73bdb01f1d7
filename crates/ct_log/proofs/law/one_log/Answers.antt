use Rattle.ct_log.proofs.OneReading as lemma
use Rattle.ct_log.proofs.law.one_log.Goals as goal

pub returns : goal.returns
returns c = lemma.one_log
