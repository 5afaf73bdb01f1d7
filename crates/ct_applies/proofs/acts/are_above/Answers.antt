use Rattle.std.proofs.Common.{rules, ◌<◌}
use Rattle.ct_applies.proofs.Each.{by_recursion}
use Rattle.ct_applies.proofs.acts.are_above.Goals as goal

pub returns : goal.returns
returns c = by_recursion (λ listed. c.args.id < listed.table) c.args.minima.now _ (search rules)
