use Rattle.std.proofs.Common.{◌≡◌, length}
use Rattle.ct_rows.specs.Versions.{rows_at}
use Rattle.ct_rows.proofs.rows_at.RowsAtIterator.next.Given as goal

abbrev pub invariant-loop-pair : goal.invariant-loop-pair
invariant-loop-pair l = rows_at l.self-inside.range l.self-inside.view ≡ l.fn.self

abbrev pub decreases-loop-pair : goal.decreases-loop-pair
decreases-loop-pair l = length l.self-inside.range
