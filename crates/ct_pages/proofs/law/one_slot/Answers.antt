use Rattle.ct_pages.proofs.Decoding as lemma
use Rattle.ct_pages.proofs.law.one_slot.Goals as goal

pub returns : goal.returns
returns c = lemma.one_slot
