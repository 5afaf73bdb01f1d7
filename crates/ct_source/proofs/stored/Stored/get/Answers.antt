use Rattle.std.proofs.Common.{◌∙◌}
use Rattle.ct_source.proofs.PairsByKey.{row_of_key}
use Rattle.ct_source.proofs.stored.Stored.get.Goals as goal

pub returns : goal.returns
returns c = rw (← c.self.view_is) (c.get.ensures ∙ row_of_key c.self.inside.schema.value c.args.key.now c.self.inside.tree c.self.invariant.keys)
