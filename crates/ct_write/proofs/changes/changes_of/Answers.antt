use Rattle.std.proofs.Common.{ap}
use Rattle.std.proofs.lemmas.Result.{err_from_is_err_and}
use Rattle.ct_source.specs.Rows.{lent}
use Rattle.ct_write.proofs.Giving.{update_made, update_refused}
use Rattle.ct_write.proofs.changes.changes_of.Goals as goal

pub returns-in_err-rows-in-Update : goal.returns-in_err-rows-in-Update
returns-in_err-rows-in-Update g c =
    let p = err_from_is_err_and c.from_residual.result c.from_residual.ensures.1 in
    rw (p.1, p.2) (update_refused (record { env = c.args.env.now; versions = g.L.Versions.row_of c.args.versions.now }) c.args.table.now.schema c.args.change.now _ _ c.args.table.now.rows c.in_err-rows-in-Update.field-0.0 c.in-Update.is c.in_err-rows-in-Update.ensures)

pub returns-in_ok-rows-in-Update : goal.returns-in_ok-rows-in-Update
returns-in_ok-rows-in-Update g c =
    update_made (record { env = c.args.env.now; versions = g.L.Versions.row_of c.args.versions.now }) c.args.table.now.schema _ c.args.change.now _ _ _ c.args.table.now.rows _ _ _ c.in-Update.is c.in_ok-rows-in-Update.ensures c.schema-schema.ensures c.as_slice-sets.ensures (ap lent c.as_slice-in-Update.ensures) c.update_all.ensures
