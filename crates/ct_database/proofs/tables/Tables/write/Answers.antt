use Rattle.ct_database.specs.Steps.{listed_of}
use Rattle.ct_database.proofs.Listing.{listed_written}
use Rattle.ct_database.proofs.tables.Tables.write.Goals as goal

pub invariant_of-self : goal.invariant_of-self
invariant_of-self c = listed_written c.write.result (listed_of c.self.inside.catalogue) c.self.inside.tables.items c.write.new.tables.items c.args.writes c.self.invariant c.write.ensures.ok c.write.ensures.err
