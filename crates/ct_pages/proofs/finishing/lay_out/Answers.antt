use Rattle.std.proofs.Common.{◌<◌, length, arith}
use Rattle.ct_pages.proofs.Finishes.{unfinished_second}
use Rattle.ct_pages.proofs.finishing.lay_out.Goals as goal

pub returns-in_err-write_synced-2-clause-images : goal.returns-in_err-write_synced-2-clause-images
returns-in_err-write_synced-2-clause-images g c = λ h.
    let old = c.args.disk.now in
    let D = g.D.Disk in
    let read = c.len.ensures in
    let near = read.honest.0 h in
    let wrote = c.in_ok-write_synced.ensures in
    let short : length (D.content old 0) < 40 = omega (arith, c.in_ok-len.ensures.gives h, c.if-branch.true) in
    unfinished_second (D.content old) (c.requires.unfinished h) short c.closed_head-bytes.result c.closed_head-bytes.ensures (D.content c.len.new.self) (D.content c.write_synced.new.disk) (read.content h) (wrote.written near)
    _ _ _ _ (D.images old) (D.images c.len.new.self) (D.images c.write_synced.new.disk) (D.images c.write_synced-then-branch.new.disk)
    (c.requires.head h) (read.images h) (wrote.images near) (wrote.durable near) (c.write_synced-then-branch.ensures.images (wrote.honest.0 near))

pub returns-in_ok-write_synced-2-clause-images : goal.returns-in_ok-write_synced-2-clause-images
returns-in_ok-write_synced-2-clause-images g c = λ h.
    let old = c.args.disk.now in
    let D = g.D.Disk in
    let read = c.len.ensures in
    let near = read.honest.0 h in
    let wrote = c.in_ok-write_synced.ensures in
    let short : length (D.content old 0) < 40 = omega (arith, c.in_ok-len.ensures.gives h, c.if-branch.true) in
    unfinished_second (D.content old) (c.requires.unfinished h) short c.closed_head-bytes.result c.closed_head-bytes.ensures (D.content c.len.new.self) (D.content c.write_synced.new.disk) (read.content h) (wrote.written near)
    _ _ _ _ (D.images old) (D.images c.len.new.self) (D.images c.write_synced.new.disk) (D.images c.write_synced-then-branch.new.disk)
    (c.requires.head h) (read.images h) (wrote.images near) (wrote.durable near) (c.write_synced-then-branch.ensures.images (wrote.honest.0 near))
