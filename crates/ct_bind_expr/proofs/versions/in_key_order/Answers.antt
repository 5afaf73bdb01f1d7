use Rattle.ct_types.specs.declared.schema.Column.{Column}
use Rattle.ct_bind_names.specs.Names.{place_of}
use Rattle.ct_bind_expr.proofs.Taken.{collects_on}
use Rattle.ct_bind_expr.proofs.versions.in_key_order.Goals as goal

pub loop-column-preserved : goal.loop-column-preserved
loop-column-preserved g c =
    collects_on (λ (column : Column). place_of column.name c.args.names.now) c.args.values c.args.key.now c.loop-column.column-index c.column-item.result c.loop-column.made _ c.loop-column.left.items _ c.in_ok-value.value c.place_of.result
    c.loop-column-test.true c.column-item.is c.place_of.ensures c.in_ok-value.ensures c.in_ok-add_some.ensures c.loop-column.invariant
