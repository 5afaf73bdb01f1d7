use Rattle.std.proofs.Common.{rules}
use Rattle.ct_model.specs.Schemas.{IsColumn}
use Rattle.ct_applies.proofs.Each.{by_recursion}
use Rattle.ct_applies.proofs.schemas.are_columns.Goals as goal

pub returns : goal.returns
returns c = by_recursion IsColumn c.args.columns.now _ (search rules)
