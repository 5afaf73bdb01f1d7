use Rattle.std.proofs.Common.{arith}
use Rattle.ct_pages.proofs.Spares.{laid_out_spares}
use Rattle.ct_pages.proofs.Finishes.{finish_second, finish_third, finish_done}
use Rattle.ct_pages.proofs.finishing.finish_disk.Goals as goal

pub start-requires-clause-spare : goal.start-requires-clause-spare
start-requires-clause-spare g c = λ h.
    let near = c.lay_out.new.disk in
    let D = g.D.Disk in
    let laid = c.in_ok-lay_out.ensures in
    let first = laid.honest.1 h in
    laid_out_spares 3 (D.content near) (D.images near (D.clock near)) (laid.head first) (laid.laid_out first).here

pub returns-in_err-start-clause-images : goal.returns-in_err-start-clause-images
returns-in_err-start-clause-images g c = λ h.
    let near = c.lay_out.new.disk in
    let D = g.D.Disk in
    let laid = c.in_ok-lay_out.ensures in
    finish_second (D.content near) (laid.laid_out h).here _ _ _ (D.images c.args.disk.now) (D.images near) (D.images c.start.new.disk)
    (laid.head h) (laid.images h) (c.start.ensures.images (laid.honest.0 h))

pub returns-in_err-put_slot-clause-images : goal.returns-in_err-put_slot-clause-images
returns-in_err-put_slot-clause-images g c = λ h.
    let near = c.lay_out.new.disk in
    let D = g.D.Disk in
    let laid = c.in_ok-lay_out.ensures in
    let started = c.in_ok-start.ensures in
    let mid = laid.honest.0 h in
    finish_third (D.content near) (laid.laid_out h).here (D.content c.start.new.disk) (started.started mid) _ _ _ _ (D.images c.args.disk.now) (D.images near) (D.images c.start.new.disk) (D.images c.put_slot.new.disk)
    (laid.head h) (laid.images h) (started.images mid) (started.durable mid (omega arith)) (c.put_slot.ensures.images (started.honest.0 mid))

pub returns-clause-images : goal.returns-clause-images
returns-clause-images g c = λ h.
    let near = c.lay_out.new.disk in
    let D = g.D.Disk in
    let laid = c.in_ok-lay_out.ensures in
    let started = c.in_ok-start.ensures in
    let mid = laid.honest.0 h in
    finish_third (D.content near) (laid.laid_out h).here (D.content c.start.new.disk) (started.started mid) _ _ _ _ (D.images c.args.disk.now) (D.images near) (D.images c.start.new.disk) (D.images c.put_slot.new.disk)
    (laid.head h) (laid.images h) (started.images mid) (started.durable mid (omega arith)) (c.put_slot.ensures.images (started.honest.0 mid))

pub returns-clause-finished : goal.returns-clause-finished
returns-clause-finished g c = λ h.
    let D = g.D.Disk in
    let laid = c.in_ok-lay_out.ensures in
    let started = c.in_ok-start.ensures in
    let mid = laid.honest.0 h in
    finish_done (D.content c.lay_out.new.disk) (laid.laid_out h).here (D.content c.start.new.disk) (started.started mid) (D.content c.args.disk.now) (D.content c.put_slot.new.disk)
    (laid.laid_out h) (c.in_ok-put_slot.ensures.put (started.honest.0 mid))
