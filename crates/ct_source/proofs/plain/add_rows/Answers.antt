use Rattle.std.proofs.Common.{◌++◌, subst, sym, ap}
use Rattle.std.specs.Vec.Iter.{into_iter_items}
use Rattle.ct_types.specs.declared.schema.Schema.{Schema}
use Rattle.ct_model.specs.declared.db.Table.{Table}
use Rattle.ct_model.specs.Valid.{AreRising}
use Rattle.ct_source.proofs.RowsAdded.{are_below}
use Rattle.ct_source.specs.Plain.{AreBelow}
use Rattle.ct_source.proofs.plain.add_rows.Goals as goal

pub add_row-requires-clause-above : goal.add_row-requires-clause-above
add_row-requires-clause-above c =
    let now = c.loop-row.table in
    let schema = c.args.table.now.schema in
    let row = c.in-Some.row in
    let rest = into_iter_items c.next.new.self in
    subst (λ (s : Schema). AreBelow s row now.rows) (sym (ap (λ (t : Table). t.schema) c.loop-row.invariant.done))
    (are_below schema now.rows row rest (subst (λ rows. AreRising schema (now.rows ++ rows)) c.in-Some.ensures.steps.0 c.loop-row.invariant.rising))
