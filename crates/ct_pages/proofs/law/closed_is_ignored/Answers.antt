use Rattle.ct_pages.proofs.Turning as lemma
use Rattle.ct_pages.proofs.law.closed_is_ignored.Goals as goal

pub returns : goal.returns
returns c = lemma.closed_is_ignored
