use Rattle.ct_spelling_laws.proofs.Commits
use Rattle.ct_spelling_laws.proofs.laws.few_changes_are_short.Goals as goal

pub returns : goal.returns
returns c = Commits.few_changes_are_short
