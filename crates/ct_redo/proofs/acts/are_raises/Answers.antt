use Rattle.std.proofs.Common.{rules}
use Rattle.ct_model.specs.Applies.{IsRaise}
use Rattle.ct_applies.proofs.Each.{by_recursion}
use Rattle.ct_redo.proofs.acts.are_raises.Goals as goal

pub returns : goal.returns
returns c = by_recursion (IsRaise c.args.database.now.tables c.args.version) c.args.minima.now _ (search rules)
