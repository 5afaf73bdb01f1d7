use Rattle.std.proofs.Common.{◌≡◌, None}
use Rattle.ct_model.specs.Tables.{catalogued}
use Rattle.ct_redo.proofs.Listed.{told_listed}
use Rattle.ct_redo.proofs.acts.none_tracked.Goals as goal

pub returns : goal.returns
returns c = told_listed catalogued (λ table. table.tracked ≡ None) c.args.database.now.tables c.catalogue.result.now _ c.catalogue.ensures c.are_untracked.ensures
