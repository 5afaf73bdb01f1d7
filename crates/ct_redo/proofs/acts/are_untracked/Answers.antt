use Rattle.std.proofs.Common.{rules, ◌≡◌, None}
use Rattle.ct_applies.proofs.Each.{by_recursion}
use Rattle.ct_redo.proofs.acts.are_untracked.Goals as goal

pub returns : goal.returns
returns c = by_recursion (λ table. table.tracked ≡ None) c.args.catalogue.now _ (search rules)
