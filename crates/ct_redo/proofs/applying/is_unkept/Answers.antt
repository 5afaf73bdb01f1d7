use Rattle.std.proofs.Common.{◌≢◌, rules}
use Rattle.ct_database.specs.Commits.{committed}
use Rattle.ct_database.specs.declared.committed.Committed.{Committed}
use Rattle.ct_redo.proofs.Listed.{told_listed}
use Rattle.ct_redo.proofs.applying.is_unkept.Goals as goal

pub returns : goal.returns
returns c = told_listed committed (λ (one : Committed). one.xdes ≢ c.args.xdes) c.args.database.now.kept c.as_slice.result.now _ (search rules) c.is_unused.ensures
