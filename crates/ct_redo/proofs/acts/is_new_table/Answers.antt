use Rattle.std.proofs.Common.{rules, ◌≢◌}
use Rattle.ct_model.specs.Names.{folded}
use Rattle.ct_applies.proofs.Each.{by_recursion}
use Rattle.ct_redo.proofs.acts.is_new_table.Goals as goal

pub returns : goal.returns
returns c = by_recursion (λ table. folded table.schema.name ≢ folded c.args.name.now) c.args.catalogue.now _ (search rules)
