use Rattle.std.proofs.Common.{List, ap, ◌∙◌}
use Rattle.ct_types.specs.declared.value.Value.{Value}
use Rattle.ct_write.specs.Rows.{assigned, nulls}
use Rattle.ct_write.proofs.Giving.{inserted_as}
use Rattle.ct_write.proofs.changes.insert_one.Goals as goal

pub returns : goal.returns
returns g c =
    let columns = c.args.columns.now in
    let values = c.in_ok-values.values in
    inserted_as (record { env = c.args.env.now; versions = g.L.Versions.row_of c.args.versions.now }) c.args.schema.now columns c.args.tuple.now c.new.result values c.from_vec.result
    c.in_ok-key.key c.new.ensures c.in_ok-values.ensures
    (c.from_vec.ensures
    ∙ (c.in_ok-assign.ensures
    ∙ (ap (λ (vs : List Value). assigned columns vs c.in_ok-row.row.items) c.as_slice-2.ensures
    ∙ ap (λ (row : List Value). assigned columns values row) (c.in_ok-row.ensures ∙ ap nulls c.as_slice.ensures))))
    c.in_ok-key.ensures
