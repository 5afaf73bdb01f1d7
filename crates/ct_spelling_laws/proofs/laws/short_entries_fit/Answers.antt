use Rattle.ct_spelling_laws.proofs.Entries
use Rattle.ct_spelling_laws.proofs.laws.short_entries_fit.Goals as goal

pub returns : goal.returns
returns c = Entries.short_entries_fit
