use Rattle.ct_spelling_laws.proofs.Commits
use Rattle.ct_spelling_laws.proofs.laws.commits_stay_short.Goals as goal

pub returns : goal.returns
returns c = Commits.commits_stay_short
