use Rattle.ct_machine.proofs.Draws.{draws_is}
use Rattle.ct_machine.proofs.laws.entries_draw.Goals as goal

pub returns : goal.returns
returns c = λ db entry applies. draws_is db entry.version entry.draws entry.act applies.act
