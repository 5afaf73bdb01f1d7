-- A table that is found has few columns, where all tables have.
use Rattle.std.proofs.Common.{◌≤◌, List, length, Result, Ok, Err, IfOk}
use denote.Ref.{Bor}
use Rattle.ct_types.specs.declared.catalogue.Catalogued.{Catalogued}
use Rattle.ct_types.specs.declared.expr.ObjectName.{ObjectName}
use Rattle.ct_types.specs.declared.refusal.Refusal.{Refusal}
use Rattle.ct_types.specs.Answers.{Lends}
use Rattle.ct_bind_names.specs.Names.{same, table_name}
use Rattle.ct_bind_names.specs.Catalogue.{existing_table, table_named}
use Rattle.ct_bind.specs.Limits.{HaveFewColumns}
use Rattle.ct_types.proofs.AnswersTaken.{there}
use Rattle.ct_types.proofs.Lists.{all_found}

pub few_of : (tables : List Catalogued) (name : ObjectName) (result : Result (Bor Catalogued) Refusal)
    → HaveFewColumns tables → Lends (existing_table tables name) result → IfOk result (λ table. length table.now.schema.columns ≤ 64)
unfolding existing_table table_named
few_of tables name (Ok table) few e =
    all_found (λ table. length table.schema.columns ≤ 64) (λ table. same table.schema.name (table_name name)) tables table.now few (there _ _ table.now e)
few_of tables name (Err refusal) few e = tt
