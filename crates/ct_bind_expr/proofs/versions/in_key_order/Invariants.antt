use Rattle.ct_bind_names.specs.Names.{place_of}
use Rattle.ct_bind_expr.proofs.Taken.{Collects}
use Rattle.ct_bind_expr.proofs.versions.in_key_order.Given as goal

abbrev pub invariant-loop-column : goal.invariant-loop-column
invariant-loop-column g l = Collects (λ column. place_of column.name l.names) l.fn.values l.key l.column-index l.made l.left.items
