use Rattle.std.proofs.Common.{◌≤◌, ◌+◌, length, take, drop, arith}
use Rattle.std.proofs.lemmas.Result.{on_ok_weaker}
use Rattle.ct_pages.specs.Slots.{offset_of}
use Rattle.ct_pages.proofs.Putting.{body_of, put_first, put_second, put_done}
use Rattle.ct_pages.proofs.flipping.put_slot.Goals as goal

pub returns-in_err-write_synced-clause-images : goal.returns-in_err-write_synced-clause-images
returns-in_err-write_synced-clause-images g c = λ h.
    let a = c.args in
    let D = g.D.Disk in
    let long : offset_of a.place + 16 ≤ length (D.content a.disk.now 0) = omega (arith, c.requires.long h) in
    let is_body = body_of a.slot c.spell-bytes.result c.spell-bytes.ensures in
    put_first a.place (D.content a.disk.now) long c.offset.result c.offset.ensures a.slot (take 15 (drop 1 c.spell-bytes.result)) is_body _ _ (D.images a.disk.now) (D.images c.write_synced.new.disk)
    (c.requires.closed h) (c.requires.head h) (c.write_synced.ensures.images h)

pub returns-clause-images : goal.returns-clause-images
returns-clause-images g c = λ h.
    let a = c.args in
    let D = g.D.Disk in
    let wrote = c.in_ok-write_synced.ensures in
    let long : offset_of a.place + 16 ≤ length (D.content a.disk.now 0) = omega (arith, c.requires.long h) in
    let is_body = body_of a.slot c.spell-bytes.result c.spell-bytes.ensures in
    put_second a.place (D.content a.disk.now) long c.offset.result c.offset.ensures a.slot (take 15 (drop 1 c.spell-bytes.result)) is_body (D.content c.write_synced.new.disk) (wrote.written h)
    c.offset-2.result _ _ _ (D.images a.disk.now) (D.images c.write_synced.new.disk) (D.images c.write_synced-2.new.disk)
    c.offset-2.ensures (wrote.rises h) (c.requires.closed h) (c.requires.head h) (wrote.images h) (wrote.durable h) (c.write_synced-2.ensures.images (wrote.honest.0 h))

pub returns-clause-put : goal.returns-clause-put
returns-clause-put g c = λ h.
    let a = c.args in
    let D = g.D.Disk in
    let wrote = c.in_ok-write_synced.ensures in
    let long : offset_of a.place + 16 ≤ length (D.content a.disk.now 0) = omega (arith, c.requires.long h) in
    let is_body = body_of a.slot c.spell-bytes.result c.spell-bytes.ensures in
    on_ok_weaker c.write_synced-2.result
    (put_done a.place (D.content a.disk.now) long c.offset.result c.offset.ensures a.slot (take 15 (drop 1 c.spell-bytes.result)) is_body (D.content c.write_synced.new.disk) (wrote.written h) c.offset-2.result (D.content c.write_synced-2.new.disk) c.offset-2.ensures)
    (c.write_synced-2.ensures.written (wrote.honest.0 h))
