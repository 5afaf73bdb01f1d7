use Rattle.std.proofs.Common.{sym, ap, ◌∙◌, map, subst}
use Rattle.std.specs.List.{AllByRecursion}
use Rattle.std.specs.Vec.Iter.{into_iter_items}
use Rattle.std.proofs.lemmas.List.Sums.{fold_push}
use Rattle.ct_model.specs.Apply.{written}
use Rattle.ct_database.specs.Storable.{IsWriteStorable}
use Rattle.ct_database.proofs.Numbered.{numbered_written, all_storable_written}
use Rattle.ct_database.proofs.writes.write_all.Goals as goal

pub loop-write-preserved : goal.loop-write-preserved
loop-write-preserved c =
    let write = c.in-Some.write in
    let before = c.loop-write.tables.items in
    let rest = into_iter_items c.next.new.self in
    let all = subst (AllByRecursion (IsWriteStorable before)) c.in-Some.ensures.steps.0 c.loop-write.invariant.storable in
    record {
      done = c.in_ok-write_one.ensures.ok ∙ ap (map (written write)) c.loop-write.invariant.done ∙ sym (fold_push _ _ c.loop-write.yielded write);
      numbered = rw c.in_ok-write_one.ensures.ok (numbered_written write before c.loop-write.invariant.numbered);
      storable = rw c.in_ok-write_one.ensures.ok (all_storable_written write before rest all.1);
    }
