use Rattle.std.proofs.Common.{rules, ◌≢◌}
use Rattle.ct_applies.proofs.Each.{by_recursion}
use Rattle.ct_redo.proofs.applying.is_unused.Goals as goal

pub returns : goal.returns
returns c = by_recursion (λ one. one.xdes ≢ c.args.xdes) c.args.kept.now _ (search rules)
