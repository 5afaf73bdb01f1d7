use Rattle.ct_core.specs.Seeing.{seen_with}
use Rattle.ct_core.proofs.Worlds.{writes_given}
use Rattle.ct_core.proofs.writing.writes_on.Goals as goal

pub writes-requires : goal.writes-requires
writes-requires c = c.requires.ids

pub returns-clause-gives : goal.returns-clause-gives
returns-clause-gives c = writes_given (seen_with c.args.db.now c.args.env.now) c.args.env.now c.args.table.now c.args.write.now c.writes.result c.requires.env c.writes.ensures.gives

pub returns-clause-keyed : goal.returns-clause-keyed
returns-clause-keyed c = c.writes.ensures.keyed c.requires.spares
