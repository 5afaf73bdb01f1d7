use Rattle.std.proofs.Common.{◌-◌, ◌%◌, refl}
use Rattle.ct_pages.proofs.Putting.{flip_first, flip_second, flip_done}
use Rattle.ct_pages.proofs.flipping.flip.Goals as goal

pub returns-in_err-close_slot-clause-images : goal.returns-in_err-close_slot-clause-images
returns-in_err-close_slot-clause-images g c = λ h.
    let a = c.args in
    let D = g.D.Disk in
    flip_first (1 - a.old.turn % 2) a.old a.new c.requires.canonical c.requires.turn refl (D.content a.disk.now) (c.requires.current h) _ _ (D.images a.disk.now) (D.images c.close_slot.new.disk)
    (c.requires.head h) (c.close_slot.ensures.images h)

pub returns-in_err-put_slot-clause-images : goal.returns-in_err-put_slot-clause-images
returns-in_err-put_slot-clause-images g c = λ h.
    let a = c.args in
    let D = g.D.Disk in
    flip_second (1 - a.old.turn % 2) a.old a.new c.requires.canonical c.requires.turn refl (D.content a.disk.now) (c.requires.current h)
    (D.content c.close_slot.new.disk) (c.in_ok-close_slot.ensures.closed h) _ _ _ (D.images a.disk.now) (D.images c.close_slot.new.disk) (D.images c.put_slot.new.disk)
    (c.requires.head h) (c.in_ok-close_slot.ensures.head h) (c.close_slot.ensures.images h) (c.put_slot.ensures.images (c.close_slot.ensures.honest.0 h))

pub returns-clause-images : goal.returns-clause-images
returns-clause-images g c = λ h.
    let a = c.args in
    let D = g.D.Disk in
    flip_second (1 - a.old.turn % 2) a.old a.new c.requires.canonical c.requires.turn refl (D.content a.disk.now) (c.requires.current h)
    (D.content c.close_slot.new.disk) (c.in_ok-close_slot.ensures.closed h) _ _ _ (D.images a.disk.now) (D.images c.close_slot.new.disk) (D.images c.put_slot.new.disk)
    (c.requires.head h) (c.in_ok-close_slot.ensures.head h) (c.close_slot.ensures.images h) (c.put_slot.ensures.images (c.close_slot.ensures.honest.0 h))

pub returns-clause-flipped : goal.returns-clause-flipped
returns-clause-flipped g c = λ h.
    let a = c.args in
    let D = g.D.Disk in
    flip_done (1 - a.old.turn % 2) a.old a.new c.requires.canonical c.requires.turn refl (D.content a.disk.now) (c.requires.current h)
    (D.content c.close_slot.new.disk) (c.in_ok-close_slot.ensures.closed h) (D.content c.put_slot.new.disk) (c.in_ok-put_slot.ensures.put (c.close_slot.ensures.honest.0 h))
