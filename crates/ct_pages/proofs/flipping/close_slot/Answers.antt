use Rattle.std.proofs.Common.{◌≤◌, ◌+◌, [], ◌∷◌, length, arith, subst}
use Rattle.std.proofs.lemmas.Bool.{iff_false}
use Rattle.ct_faults.specs.Disk.{Image, Changes, IsWritten}
use Rattle.ct_pages.specs.Slots.{offset_of}
use Rattle.ct_pages.proofs.Putting.{shut_by_write, shut_done, shut_stays}
use Rattle.ct_pages.proofs.flipping.close_slot.Goals as goal

pub returns-in_err-write_synced-clause-images : goal.returns-in_err-write_synced-clause-images
returns-in_err-write_synced-clause-images g c = λ h.
    let a = c.args in
    let D = g.D.Disk in
    let long : offset_of a.place + 16 ≤ length (D.content a.disk.now 0) = omega (arith, c.requires.long h) in
    shut_by_write a.place (D.content a.disk.now) long c.offset.result c.offset.ensures _ _ _ (D.images a.disk.now) (D.images c.is_open.new.disk) (D.images c.write_synced.new.disk)
    ((c.in_ok-is_open.ensures.gives h).0 c.if-branch.true) (c.requires.head h) (c.is_open.ensures.images h) (c.write_synced.ensures.images (c.is_open.ensures.honest.0 h))

pub returns-in_ok-write_synced-clause-images : goal.returns-in_ok-write_synced-clause-images
returns-in_ok-write_synced-clause-images g c = λ h.
    let a = c.args in
    let D = g.D.Disk in
    let long : offset_of a.place + 16 ≤ length (D.content a.disk.now 0) = omega (arith, c.requires.long h) in
    shut_by_write a.place (D.content a.disk.now) long c.offset.result c.offset.ensures _ _ _ (D.images a.disk.now) (D.images c.is_open.new.disk) (D.images c.write_synced.new.disk)
    ((c.in_ok-is_open.ensures.gives h).0 c.if-branch.true) (c.requires.head h) (c.is_open.ensures.images h) (c.write_synced.ensures.images (c.is_open.ensures.honest.0 h))

pub returns-in_ok-write_synced-clause-closed : goal.returns-in_ok-write_synced-clause-closed
returns-in_ok-write_synced-clause-closed g c = λ h.
    let a = c.args in
    let D = g.D.Disk in
    let read = c.is_open.ensures in
    let long : offset_of a.place + 16 ≤ length (D.content a.disk.now 0) = omega (arith, c.requires.long h) in
    let wrote = subst (λ (i : Image). Changes 0 (IsWritten c.offset.result (0 ∷ [])) i (D.content c.write_synced.new.disk)) (read.content h) (c.in_ok-write_synced.ensures.written (read.honest.0 h)) in
    shut_done a.place (D.content a.disk.now) long c.offset.result c.offset.ensures (D.content c.write_synced.new.disk) wrote

pub returns-else-branch-clause-closed : goal.returns-else-branch-clause-closed
returns-else-branch-clause-closed g c = λ h.
    let a = c.args in
    let D = g.D.Disk in
    let long : offset_of a.place + 16 ≤ length (D.content a.disk.now 0) = omega (arith, c.requires.long h) in
    shut_stays a.place (D.content a.disk.now) (D.content c.is_open.new.disk) long (iff_false (c.in_ok-is_open.ensures.gives h) c.if-branch.false) (c.is_open.ensures.content h)
