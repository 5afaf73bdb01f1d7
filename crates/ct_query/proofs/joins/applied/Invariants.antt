use Rattle.std.proofs.Common.{◌≡◌, ◌++◌, map}
use Rattle.std.specs.Iterator.Adapters.{zip_first, zip_second}
use Rattle.std.specs.Slice.Iter.{iter_rest}
use Rattle.ct_source.specs.Rows.{lent}
use Rattle.ct_query.specs.Joins.{row_of, side_by_side}
use Rattle.ct_query.proofs.joins.applied.Given as goal

abbrev pub invariant-loop-left : goal.invariant-loop-left
invariant-loop-left l =
    map (row_of 0 0) (side_by_side (lent l.lefts) (lent l.rights)) ≡ l.rows ++ map (row_of 0 0) (side_by_side (lent (iter_rest (zip_first l.left-iterator))) (lent (iter_rest (zip_second l.left-iterator))))
