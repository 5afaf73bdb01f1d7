use Rattle.std.proofs.Common.{◌≢◌}
use Rattle.ct_types.specs.declared.catalogue.Catalogued.{Catalogued}
use Rattle.ct_model.specs.Names.{folded}
use Rattle.ct_model.specs.Tables.{catalogued}
use Rattle.ct_redo.proofs.Listed.{told_listed}
use Rattle.ct_redo.proofs.acts.is_new_name.Goals as goal

pub returns : goal.returns
returns c = told_listed catalogued (λ (table : Catalogued). folded table.schema.name ≢ folded c.args.name.now) c.args.database.now.tables c.catalogue.result.now _ c.catalogue.ensures c.is_new_table.ensures
