use Rattle.ct_log.proofs.OneReading as lemma
use Rattle.ct_log.proofs.law.one_break.Goals as goal

pub returns : goal.returns
returns c = lemma.one_break
