use Rattle.ct_spelling_laws.proofs.Entries
use Rattle.ct_spelling_laws.proofs.laws.frames_are_short.Goals as goal

pub returns : goal.returns
returns c = Entries.frames_are_short
