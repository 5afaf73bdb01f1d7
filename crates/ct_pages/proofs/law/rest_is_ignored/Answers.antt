use Rattle.ct_pages.proofs.Decoding as lemma
use Rattle.ct_pages.proofs.law.rest_is_ignored.Goals as goal

pub returns : goal.returns
returns c = lemma.rest_is_ignored
