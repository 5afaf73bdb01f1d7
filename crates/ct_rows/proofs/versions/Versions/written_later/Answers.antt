use Rattle.std.proofs.Common.{◌≡◌, ◌-◌, Some, None, length, arith}
use Rattle.std.specs.List.{last_or}
use Rattle.ct_rows.specs.Versions.{versions_of}
use Rattle.ct_rows.proofs.Seen.{last_place}
use Rattle.ct_rows.proofs.Kept.{written_yes, written_no}
use Rattle.ct_rows.proofs.versions.Versions.written_later.Goals as goal

pub returns-then-view-deref : goal.returns-then-view-deref
returns-then-view-deref c =
    let whole : versions_of c.as_slice.result.now ≡ c.args.self.now = rw c.as_slice.ensures.value c.self.view_is in
    let last : last_or None c.args.self.now ≡ Some c.last-item.result.value = rw (← whole) (last_place c.as_slice.result.now (length c.as_slice.result.now - 1) c.last-item.result (omega arith) c.last-item.is) in
    written_yes c.args.view c.args.self.now c.last-item.result.value c.deref.result.now c.deref-then-view-deref.result.now last c.deref.ensures c.deref-then-view-deref.ensures c.if-view-deref.true

pub returns-else-view-deref : goal.returns-else-view-deref
returns-else-view-deref c =
    let whole : versions_of c.as_slice.result.now ≡ c.args.self.now = rw c.as_slice.ensures.value c.self.view_is in
    let last : last_or None c.args.self.now ≡ Some c.last-item.result.value = rw (← whole) (last_place c.as_slice.result.now (length c.as_slice.result.now - 1) c.last-item.result (omega arith) c.last-item.is) in
    written_no c.args.view c.args.self.now c.last-item.result.value c.deref.result.now last c.deref.ensures c.if-view-deref.false
