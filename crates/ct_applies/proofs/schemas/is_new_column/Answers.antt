use Rattle.std.proofs.Common.{rules, ◌≢◌}
use Rattle.ct_model.specs.Names.{folded}
use Rattle.ct_applies.proofs.Each.{by_recursion-map}
use Rattle.ct_applies.proofs.schemas.is_new_column.Goals as goal

pub returns : goal.returns
returns c = by_recursion-map (λ other. folded c.args.name.now ≢ other) (λ column. folded column.name) c.args.columns.now _ (search rules)
