use Rattle.std.proofs.Common.{◌≡◌, ◌++◌}
use Rattle.std.specs.List.{AllByRecursion}
use Rattle.std.specs.Vec.Iter.{into_iter_items}
use Rattle.ct_model.specs.Valid.{AreRising}
use Rattle.ct_source.specs.Rows.{IsWhole}
use Rattle.ct_source.proofs.plain.add_rows.Given as goal

abbrev pub invariant-loop-row : goal.invariant-loop-row
invariant-loop-row l = record {
  done : l.table ≡ record l.fn.table { rows = l.fn.table.rows ++ l.yielded };
  whole : AllByRecursion (IsWhole l.fn.table.schema) (into_iter_items l.row-iterator);
  rising : AreRising l.fn.table.schema (l.table.rows ++ into_iter_items l.row-iterator);
}
