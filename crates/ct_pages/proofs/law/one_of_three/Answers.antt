use Rattle.ct_pages.proofs.Decoding as lemma
use Rattle.ct_pages.proofs.law.one_of_three.Goals as goal

pub returns : goal.returns
returns c = lemma.one_of_three
