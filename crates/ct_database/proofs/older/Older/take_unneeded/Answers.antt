use Rattle.ct_database.specs.Steps.{commits_of}
use Rattle.ct_database.proofs.Rising.{rise_front}
use Rattle.ct_database.proofs.Swept.{rise_left}
use Rattle.ct_database.proofs.older.Older.take_unneeded.Goals as goal

pub take_unneeded-requires-clause-rising : goal.take_unneeded-requires-clause-rising
take_unneeded-requires-clause-rising c = rise_front (commits_of c.self.inside.sealed) c.self.inside.recent c.self.invariant.2

pub invariant_of-self : goal.invariant_of-self
invariant_of-self c = (
  c.take_unneeded.ensures.keyed,
  c.take_unneeded.ensures.listed,
  rise_left c.take_unneeded.result (commits_of c.self.inside.sealed) (commits_of c.take_unneeded.new.sealed) c.self.inside.recent c.self.invariant.2 c.take_unneeded.ensures.parts c.take_unneeded.ensures.err,
)
