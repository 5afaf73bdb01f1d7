use Rattle.std.proofs.Common.{◌≡◌}
use Rattle.std.specs.List.{AllByRecursion}
use Rattle.std.specs.Vec.Iter.{into_iter_items}
use Rattle.ct_source.specs.Plain.{IsKeyed}
use Rattle.ct_database.proofs.plain.stored.Given as goal

abbrev pub invariant-loop-table : goal.invariant-loop-table
invariant-loop-table l = record {
  done : l.made.items ≡ l.yielded;
  keyed : AllByRecursion IsKeyed (into_iter_items l.table-iterator);
}
