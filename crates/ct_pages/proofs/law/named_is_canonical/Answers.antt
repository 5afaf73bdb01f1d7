use Rattle.ct_pages.proofs.Decoding as lemma
use Rattle.ct_pages.proofs.law.named_is_canonical.Goals as goal

pub returns : goal.returns
returns c = lemma.named_is_canonical
