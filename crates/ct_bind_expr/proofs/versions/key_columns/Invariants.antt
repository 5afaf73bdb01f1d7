use Rattle.std.proofs.Common.{◌≡◌, ◌++◌, drop}
use Rattle.std.specs.List.{filter_map}
use Rattle.ct_bind_kinds.specs.WellFormed.{column_of}
use Rattle.ct_bind_expr.proofs.versions.key_columns.Given as goal

abbrev pub invariant-loop-id : goal.invariant-loop-id
invariant-loop-id l = l.made ++ filter_map (column_of l.table.columns) (drop l.id-index l.table.key) ≡ filter_map (column_of l.table.columns) l.table.key
