use Rattle.std.proofs.Common.{rules}
use Rattle.ct_model.specs.Valid.{IsChangeValid}
use Rattle.ct_applies.proofs.Each.{by_recursion}
use Rattle.ct_applies.proofs.valid.are_changes_valid.Goals as goal

pub returns : goal.returns
returns c = by_recursion (IsChangeValid c.args.tables.now c.args.version) c.args.changes.now _ (search rules)
