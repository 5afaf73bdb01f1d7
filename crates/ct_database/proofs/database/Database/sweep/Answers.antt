use Rattle.ct_database.proofs.database.Database.sweep.Goals as goal

pub invariant_of-self : goal.invariant_of-self
invariant_of-self c = c.sweep.ensures.within c.self.inside.version c.self.invariant
