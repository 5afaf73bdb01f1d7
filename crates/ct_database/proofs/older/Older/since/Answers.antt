use Rattle.ct_database.specs.Steps.{commits_of}
use Rattle.ct_database.proofs.Rising.{rise_front}
use Rattle.ct_database.proofs.older.Older.since.Goals as goal

pub later-requires-clause-rising : goal.later-requires-clause-rising
later-requires-clause-rising c = rise_front (commits_of c.self.inside.sealed) c.self.inside.recent c.self.invariant.2
