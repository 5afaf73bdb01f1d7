use Rattle.ct_pages.proofs.Turning as lemma
use Rattle.ct_pages.proofs.law.fresh_is_current.Goals as goal

pub returns : goal.returns
returns c = lemma.fresh_is_current
