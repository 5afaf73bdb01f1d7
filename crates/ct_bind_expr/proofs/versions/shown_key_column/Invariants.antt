use Rattle.std.proofs.Common.{◌≡◌, drop}
use Rattle.ct_bind_expr.specs.Versions.{key_column_from}
use Rattle.ct_bind_expr.proofs.versions.shown_key_column.Given as goal

abbrev pub invariant-loop-column : goal.invariant-loop-column
invariant-loop-column l = key_column_from l.name l.at (drop l.column-index l.key) ≡ key_column_from l.name 0 l.key
