use Rattle.std.proofs.Common.{◌≡◌, List, Some, ap, ◌∙◌}
use Rattle.std.proofs.lemmas.Result.{on_ok_weaker}
use Rattle.ct_types.specs.declared.value.Key.{Key}
use Rattle.ct_types.specs.declared.value.Row.{Row}
use Rattle.ct_types.specs.declared.schema.Schema.{Schema}
use Rattle.ct_model.specs.declared.db.Table.{Table}
use Rattle.ct_model.specs.Tables.{key_of, rows_with}
use Rattle.ct_source.proofs.RowsAdded.{goes_last}
use Rattle.ct_source.proofs.plain.add_row.Goals as goal

pub returns : goal.returns
returns c =
    let table = c.args.table.now in
    let with_rows : List Row → Table = (λ rows. record { schema = c.args.table.now.schema; rows = rows; tracked = c.args.table.now.tracked }) in
    let key : c.in_ok-key.key ≡ key_of c.args.table.now.schema c.args.row = c.in_ok-key.ensures ∙ ap (λ (s : Schema). key_of s c.args.row) c.schema.ensures in
    on_ok_weaker c.put.result
    (λ e. e ∙ ap (λ (at : Key). with_rows (rows_with table.schema table.rows at (Some c.args.row))) key
    ∙ ap with_rows (goes_last table.schema c.args.row table.rows c.requires.above))
    c.put.ensures.ok
