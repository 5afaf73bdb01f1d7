use Rattle.std.proofs.Common.{◌∙◌}
use Rattle.ct_model.proofs.LastOf.{last_of-get}
use Rattle.ct_model.proofs.changes.last_change.Goals as goal

pub returns : goal.returns
returns c = c.last.ensures.value ∙ last_of-get c.args.changes.now
