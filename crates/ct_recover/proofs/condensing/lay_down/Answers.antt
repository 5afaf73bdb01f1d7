use Rattle.std.proofs.Common.{◌<◌, arith}
use Rattle.std.proofs.lemmas.Result.{IfOk-weaker}
use Rattle.ct_faults.specs.Disk.{Changes}
use Rattle.ct_pages.specs.Flips.{IsFlipped}
use Rattle.ct_recover.specs.Condensing.{IsCondensed}
use Rattle.ct_recover.proofs.Condenses.{spare_at, spare_after, keeps_then, condense_first, condense_all, checkpoint_there, condensed_there}
use Rattle.ct_recover.proofs.condensing.lay_down.Goals as goal

pub start-requires-clause-spare : goal.start-requires-clause-spare
start-requires-clause-spare g c = λ h.
    let D = g.D.Disk in
    let old = c.args.disk.now in
    spare_at c.args.next.checkpoint c.args.slot (D.content old) (D.images old (D.clock old)) (c.requires.current h) (c.requires.only h) c.requires.apart.checkpoint

pub write_piece-requires-clause-spare : goal.write_piece-requires-clause-spare
write_piece-requires-clause-spare g c = λ near.
    let D = g.D.Disk in
    let old = c.args.disk.now in
    let first = c.start.new.disk in
    let h = c.in_ok-start.ensures.honest.1 near in
    spare_after c.args.next.checkpoint (D.clock old) (D.clock first) (D.images old) (D.images first) (c.in_ok-start.ensures.named h)
    (spare_at c.args.next.checkpoint c.args.slot (D.content old) (D.images old (D.clock old)) (c.requires.current h) (c.requires.only h) c.requires.apart.checkpoint)

pub returns-in_err-write_piece-clause-images : goal.returns-in_err-write_piece-clause-images
returns-in_err-write_piece-clause-images g c = λ h.
    let D = g.D.Disk in
    let old = c.args.disk.now in
    let first = c.start.new.disk in
    let second = c.write_piece.new.disk in
    let near = c.in_ok-start.ensures.honest.0 h in
    condense_first c.args.slot c.args.next c.args.bytes.now (D.content old) (c.requires.current h) (D.images old) (D.clock old) (c.requires.only h) (D.clock second) (D.images second)
    (keeps_then (D.clock old) (D.clock first) (D.clock second) (D.images old) (D.images first) (D.images second) (c.in_ok-start.ensures.named h) (c.write_piece.ensures.named near))

pub start-requires-2-clause-spare : goal.start-requires-2-clause-spare
start-requires-2-clause-spare g c = λ mid.
    let D = g.D.Disk in
    let old = c.args.disk.now in
    let first = c.start.new.disk in
    let second = c.write_piece.new.disk in
    let near = c.in_ok-write_piece.ensures.honest.1 mid in
    let h = c.in_ok-start.ensures.honest.1 near in
    spare_after c.args.next.first (D.clock first) (D.clock second) (D.images first) (D.images second) (c.in_ok-write_piece.ensures.named near)
    (spare_after c.args.next.first (D.clock old) (D.clock first) (D.images old) (D.images first) (c.in_ok-start.ensures.named h)
    (spare_at c.args.next.first c.args.slot (D.content old) (D.images old (D.clock old)) (c.requires.current h) (c.requires.only h) c.requires.apart.log))

pub returns-in_err-start-2-clause-images : goal.returns-in_err-start-2-clause-images
returns-in_err-start-2-clause-images g c = λ h.
    let D = g.D.Disk in
    let old = c.args.disk.now in
    let first = c.start.new.disk in
    let second = c.write_piece.new.disk in
    let third = c.start-2.new.disk in
    let near = c.in_ok-start.ensures.honest.0 h in
    let mid = c.in_ok-write_piece.ensures.honest.0 near in
    condense_first c.args.slot c.args.next c.args.bytes.now (D.content old) (c.requires.current h) (D.images old) (D.clock old) (c.requires.only h) (D.clock third) (D.images third)
    (keeps_then (D.clock old) (D.clock second) (D.clock third) (D.images old) (D.images second) (D.images third)
    (keeps_then (D.clock old) (D.clock first) (D.clock second) (D.images old) (D.images first) (D.images second) (c.in_ok-start.ensures.named h) (c.in_ok-write_piece.ensures.named near))
    (c.start-2.ensures.named mid))

pub returns-clause-laid : goal.returns-clause-laid
returns-clause-laid g c = λ h.
    let D = g.D.Disk in
    let old = c.args.disk.now in
    let third = c.start-2.new.disk in
    let last = c.flip.new.disk in
    let next = c.args.next in
    let bytes = c.args.bytes.now in
    let apart = c.requires.apart in
    let near = c.in_ok-start.ensures.honest.0 h in
    let mid = c.in_ok-write_piece.ensures.honest.0 near in
    let far = c.in_ok-start-2.ensures.honest.0 mid in
    let started = c.in_ok-start-2.ensures.started mid in
    let checkpoint = checkpoint_there next.checkpoint next.first bytes (D.content old) (D.content c.start.new.disk) (D.content c.write_piece.new.disk) (D.content third) (omega (arith, apart.low))
    (λ e. omega (arith, e, apart.low, apart.above)) (c.in_ok-start.ensures.started h) (c.in_ok-write_piece.ensures.written near) started in
    IfOk-weaker c.flip.result (λ done. Changes 0 (IsFlipped next) (D.content third) (D.content last)) (λ done. IsCondensed next bytes (D.content last))
    (λ done flips. condensed_there c.args.slot next bytes (D.content third) (D.content last) apart checkpoint (started.here.log apart.above) flips) (c.flip.ensures.flipped far)

pub returns-clause-images : goal.returns-clause-images
returns-clause-images g c = λ h.
    let D = g.D.Disk in
    let old = c.args.disk.now in
    let first = c.start.new.disk in
    let second = c.write_piece.new.disk in
    let third = c.start-2.new.disk in
    let last = c.flip.new.disk in
    let next = c.args.next in
    let bytes = c.args.bytes.now in
    let apart = c.requires.apart in
    let near = c.in_ok-start.ensures.honest.0 h in
    let mid = c.in_ok-write_piece.ensures.honest.0 near in
    let far = c.in_ok-start-2.ensures.honest.0 mid in
    let started = c.in_ok-start-2.ensures.started mid in
    let rises : D.clock old < D.clock third = omega (arith, c.in_ok-start.ensures.rises h, c.in_ok-write_piece.ensures.rises near, c.in_ok-start-2.ensures.rises mid) in
    let checkpoint = checkpoint_there next.checkpoint next.first bytes (D.content old) (D.content first) (D.content second) (D.content third) (omega (arith, apart.low))
    (λ e. omega (arith, e, apart.low, apart.above)) (c.in_ok-start.ensures.started h) (c.in_ok-write_piece.ensures.written near) started in
    condense_all c.args.slot next bytes (D.content old) (c.requires.current h) (D.images old) (D.clock old) (c.requires.only h) (D.clock third) (D.clock last) (D.images third) (D.images last) (D.content third)
    rises apart checkpoint (started.here.log apart.above)
    (keeps_then (D.clock old) (D.clock second) (D.clock third) (D.images old) (D.images second) (D.images third)
    (keeps_then (D.clock old) (D.clock first) (D.clock second) (D.images old) (D.images first) (D.images second) (c.in_ok-start.ensures.named h) (c.in_ok-write_piece.ensures.named near))
    (c.in_ok-start-2.ensures.named mid))
    (c.in_ok-start-2.ensures.durable mid apart.above) (c.flip.ensures.images far)
