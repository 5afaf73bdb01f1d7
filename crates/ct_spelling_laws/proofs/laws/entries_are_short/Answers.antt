use Rattle.ct_spelling_laws.proofs.Entries
use Rattle.ct_spelling_laws.proofs.laws.entries_are_short.Goals as goal

pub returns : goal.returns
returns c = Entries.entries_are_short
