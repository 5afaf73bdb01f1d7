use Rattle.std.proofs.Common.{rules, ◌∙◌, subst}
use Rattle.ct_faults.specs.Disk.{Image}
use Rattle.ct_faults.proofs.Moments.{Runs-same}
use Rattle.ct_pages.specs.Slots.{IsUnfinished}
use Rattle.ct_recover.specs.Settling.{MaySettle}
use Rattle.ct_recover.proofs.Syncs.{sync_none, sync_failed, sync_answered, sync_first, settle_stays, settle_finishes}
use Rattle.ct_recover.proofs.settling.settle.Goals as goal

pub returns-in_err-ready-clause-images : goal.returns-in_err-ready-clause-images
returns-in_err-ready-clause-images g c = λ h.
    let D = g.D.Disk in
    let old = c.args.disk.now in
    let one = c.ready.new.self in
    sync_failed _ c.from_residual.result (D.clock old) (D.clock one) (D.images old) (D.images one) (MaySettle (D.content old)) c.from_residual.ensures.1
    (sync_none (D.clock old) (D.clock one) (D.images old) (D.images one) (MaySettle (D.content old)) (c.ready.ensures.images h))

pub returns-in_err-sync-clause-images : goal.returns-in_err-sync-clause-images
returns-in_err-sync-clause-images g c = λ h.
    let D = g.D.Disk in
    let old = c.args.disk.now in
    let one = c.ready.new.self in
    let two = c.sync.new.self in
    let near = c.ready.ensures.honest.0 h in
    sync_failed _ c.from_residual-in_err-sync.result (D.clock old) (D.clock two) (D.images old) (D.images two) (MaySettle (D.content old)) c.from_residual-in_err-sync.ensures.1
    (sync_none (D.clock old) (D.clock two) (D.images old) (D.images two) (MaySettle (D.content old))
    (Runs-same (D.clock old) (D.clock one) (D.clock two) (D.images old) (D.images one) (D.images two) (c.ready.ensures.images h) (c.sync.ensures.images near)))

pub returns-in_err-slot-clause-images : goal.returns-in_err-slot-clause-images
returns-in_err-slot-clause-images g c = λ h.
    let D = g.D.Disk in
    let old = c.args.disk.now in
    let one = c.ready.new.self in
    let two = c.sync.new.self in
    let near = c.ready.ensures.honest.0 h in
    let new = c.read_current.new.disk in
    let far = c.sync.ensures.honest.0 near in
    sync_answered c.from_residual-in_err-slot.result (D.clock old) (D.clock new) (D.images old) (D.images new) (MaySettle (D.content old))
    (settle_stays (D.clock old) (D.clock two) (D.clock new) (D.images old) (D.images two) (D.images new) (D.content old)
    (sync_first (D.clock old) (D.clock one) (D.clock two) (D.images old) (D.images one) (D.images two) (D.content old) (D.content two) (c.ready.ensures.images h) (c.sync.ensures.rises near) (c.sync.ensures.images near)
    (c.sync.ensures.content near ∙ c.ready.ensures.content h) (c.in_ok-sync.ensures.durable near))
    (c.read_current.ensures.images far))

pub returns-in-Some-clause-images : goal.returns-in-Some-clause-images
returns-in-Some-clause-images g c = λ h.
    let D = g.D.Disk in
    let old = c.args.disk.now in
    let one = c.ready.new.self in
    let two = c.sync.new.self in
    let near = c.ready.ensures.honest.0 h in
    let new = c.read_current.new.disk in
    let far = c.sync.ensures.honest.0 near in
    settle_stays (D.clock old) (D.clock two) (D.clock new) (D.images old) (D.images two) (D.images new) (D.content old)
    (sync_first (D.clock old) (D.clock one) (D.clock two) (D.images old) (D.images one) (D.images two) (D.content old) (D.content two) (c.ready.ensures.images h) (c.sync.ensures.rises near) (c.sync.ensures.images near)
    (c.sync.ensures.content near ∙ c.ready.ensures.content h) (c.in_ok-sync.ensures.durable near))
    (c.read_current.ensures.images far)

pub returns-in-None-clause-images : goal.returns-in-None-clause-images
returns-in-None-clause-images g c = λ h.
    let D = g.D.Disk in
    let old = c.args.disk.now in
    let one = c.ready.new.self in
    let two = c.sync.new.self in
    let near = c.ready.ensures.honest.0 h in
    let new = c.read_current.new.disk in
    let far = c.sync.ensures.honest.0 near in
    let last = c.finish.new.disk in
    let stays = c.sync.ensures.content near ∙ c.ready.ensures.content h in
    let unfinished : IsUnfinished (D.content two 0) = search rules in
    sync_answered c.finish.result (D.clock old) (D.clock last) (D.images old) (D.images last) (MaySettle (D.content old))
    (settle_finishes (D.clock old) (D.clock two) (D.clock new) (D.clock last) (D.images old) (D.images two) (D.images new) (D.images last) (D.content old) (subst (λ (i : Image). IsUnfinished (i 0)) stays unfinished)
    (sync_first (D.clock old) (D.clock one) (D.clock two) (D.images old) (D.images one) (D.images two) (D.content old) (D.content two) (c.ready.ensures.images h) (c.sync.ensures.rises near) (c.sync.ensures.images near)
    (c.sync.ensures.content near ∙ c.ready.ensures.content h) (c.in_ok-sync.ensures.durable near))
    (c.read_current.ensures.images far) (c.finish.ensures.images (c.read_current.ensures.honest.0 far)))
