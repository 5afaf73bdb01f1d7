use Rattle.ct_spelling_laws.proofs.Commits
use Rattle.ct_spelling_laws.proofs.laws.replays_stay_short.Goals as goal

pub returns : goal.returns
returns c = Commits.replays_stay_short
