use Rattle.ct_spelling_laws.proofs.Entries
use Rattle.ct_spelling_laws.proofs.laws.entries_fit.Goals as goal

pub returns : goal.returns
returns c = Entries.entries_fit
