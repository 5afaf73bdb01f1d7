use Rattle.ct_core.specs.Seeing.{seen_with}
use Rattle.ct_core.proofs.Storing.{stores_if}
use Rattle.ct_core.proofs.Suiting.{suits_if}
use Rattle.ct_core.proofs.decide.bound.Goals as goal

pub returns-clause-stores : goal.returns-clause-stores
returns-clause-stores c = stores_if c.args.db.now c.args.env.now.variables.0 c.args.statement.now c.bound_among.result c.requires.tables c.bound_among.ensures.value

pub returns-clause-suits : goal.returns-clause-suits
returns-clause-suits c = suits_if c.args.tran (seen_with c.args.db.now c.args.env.now) c.args.statement.now c.bound_among.result c.requires.may c.bound_among.ensures.value
