use Rattle.std.proofs.Common.{◌≡◌, map, fold}
use Rattle.std.specs.List.{AllByRecursion}
use Rattle.std.specs.Vec.Iter.{into_iter_items}
use Rattle.ct_model.specs.Apply.{written}
use Rattle.ct_model.specs.Valid.{AreNumbered}
use Rattle.ct_database.specs.Storable.{IsWriteStorable}
use Rattle.ct_database.proofs.writes.write_all.Given as goal

abbrev pub invariant-loop-write : goal.invariant-loop-write
invariant-loop-write l = record {
  done : l.tables.items ≡ fold (λ before write. map (written write) before) l.fn.tables.items l.yielded;
  numbered : AreNumbered 1 l.tables.items;
  storable : AllByRecursion (IsWriteStorable l.tables.items) (into_iter_items l.write-iterator);
}
