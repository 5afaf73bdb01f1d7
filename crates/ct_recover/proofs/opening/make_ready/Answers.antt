use Rattle.std.proofs.Common.{◌+◌, sym, subst}
use Rattle.std.proofs.lemmas.Result.{err_from_is_err_and}
use Rattle.ct_faults.specs.Disk.{Image}
use Rattle.ct_found.specs.Found.{Stands, StandsFor}
use Rattle.ct_found.proofs.Faults.{standing_is_not_foreign}
use Rattle.ct_recover.specs.Condensing.{KeepsNamedBy}
use Rattle.ct_recover.proofs.Syncs.{sync_answered, sync_failed}
use Rattle.ct_recover.proofs.Opens.{only_after}
use Rattle.ct_recover.proofs.Readies.{settle_opens, opens_same, opens_on, opens_failed, steady_of, read_back, used_of_one, used_of_two, finds_back, foreign_settles, foreign_reads, keeps_of_one, keeps_of_two}
use Rattle.ct_recover.proofs.opening.make_ready.Goals as goal

pub returns-in_err-slot-clause-images : goal.returns-in_err-slot-clause-images
returns-in_err-slot-clause-images g c = λ h db stands.
    let D = g.D.Disk in
    let old = c.args.disk.now in
    let mid = c.settle.new.disk in
    sync_failed _ c.from_residual.result (D.clock old) (D.clock mid) (D.images old) (D.images mid) (λ image. StandsFor image db) c.from_residual.ensures.1
    (settle_opens (D.clock old) (D.clock mid) (D.clock mid + 1) (D.images old) (D.images mid) (D.content old) db stands (c.in_err-slot.ensures.images h))

pub returns-in_err-found-clause-opens : goal.returns-in_err-found-clause-opens
returns-in_err-found-clause-opens g c = λ h.
    let D = g.D.Disk in
    let old = c.args.disk.now in
    let mid = c.settle.new.disk in
    let new = c.read_named.new.disk in
    let near = c.in_ok-slot.ensures.honest.0 h in
    let e = c.in_err-found.field-0.0 in
    let p = err_from_is_err_and c.from_residual-in_err-found.result c.from_residual-in_err-found.ensures.1 in
    rw (p.1, p.2) (opens_failed (D.content old) (D.content mid) (D.content new) (D.images new (D.clock new)) c.in_ok-slot.slot e (c.in_ok-slot.ensures.settles h) (c.read_named.ensures.content near) (c.in_err-found.ensures.reads near))

pub returns-in_err-found-clause-images : goal.returns-in_err-found-clause-images
returns-in_err-found-clause-images g c = λ h db stands.
    let D = g.D.Disk in
    let old = c.args.disk.now in
    let mid = c.settle.new.disk in
    let new = c.read_named.new.disk in
    sync_answered c.from_residual-in_err-found.result (D.clock old) (D.clock new) (D.images old) (D.images new) (λ image. StandsFor image db)
    (opens_same (D.clock old) (D.clock mid) (D.clock new) (D.images old) (D.images mid) (D.images new) (D.content old) db stands (c.in_ok-slot.ensures.images h) (c.read_named.ensures.images (c.in_ok-slot.ensures.honest.0 h)))

pub returns-then-slot-eq0-clause-opens : goal.returns-then-slot-eq0-clause-opens
returns-then-slot-eq0-clause-opens g c = λ h.
    let D = g.D.Disk in
    let old = c.args.disk.now in
    let mid = c.settle.new.disk in
    let new = c.read_named.new.disk in
    let near = c.in_ok-slot.ensures.honest.0 h in
    let slot = c.in_ok-slot.slot in
    let found = c.in_ok-found.found in
    let settled = c.in_ok-slot.ensures.settles h in
    let makes = c.in_ok-found.ensures.reads near in
    let stays = c.read_named.ensures.content near in
    let there : Stands slot (D.content mid) found.db found.entries found.used = record { names = settled.names; makes = makes } in (
      read_back (D.content old) (D.content mid) slot found.db found.entries found.used settled makes,
      steady_of slot (D.content new) (D.images new (D.clock new)) found.db found.entries found.used (subst (λ (i : Image). Stands slot i found.db found.entries found.used) (sym stays) there)
          (only_after (D.clock mid) (D.clock new) (D.images mid) (D.images new) (D.content mid) (D.content new) (c.read_named.ensures.images near) (c.in_ok-slot.ensures.durable h) stays),
    )

pub returns-then-slot-eq0-clause-images : goal.returns-then-slot-eq0-clause-images
returns-then-slot-eq0-clause-images g c = λ h db stands.
    let D = g.D.Disk in
    let old = c.args.disk.now in
    let mid = c.settle.new.disk in
    let new = c.read_named.new.disk in
    opens_same (D.clock old) (D.clock mid) (D.clock new) (D.images old) (D.images mid) (D.images new) (D.content old) db stands (c.in_ok-slot.ensures.images h) (c.read_named.ensures.images (c.in_ok-slot.ensures.honest.0 h))

pub returns-in_err-next-clause-images : goal.returns-in_err-next-clause-images
returns-in_err-next-clause-images g c = λ h db stands.
    let D = g.D.Disk in
    let old = c.args.disk.now in
    let mid = c.settle.new.disk in
    let new = c.read_named.new.disk in
    let last = c.condense.new.disk in
    let near = c.in_ok-slot.ensures.honest.0 h in
    let found = c.in_ok-found.found in
    sync_answered c.from_residual-in_err-next.result (D.clock old) (D.clock last) (D.images old) (D.images last) (λ image. StandsFor image db)
    (opens_on (D.clock old) (D.clock mid) (D.clock new) (D.clock last) (D.images old) (D.images mid) (D.images new) (D.images last) (D.content old) (D.content mid) c.in_ok-slot.slot db found.db found.entries found.used
    (c.in_ok-slot.ensures.settles h) (c.in_ok-found.ensures.reads near) stands (c.in_ok-slot.ensures.images h) (c.read_named.ensures.images near) (c.condense.ensures.images (c.in_ok-found.ensures.honest.0 near)))

pub returns-clause-opens : goal.returns-clause-opens
returns-clause-opens g c = λ h.
    let D = g.D.Disk in
    let old = c.args.disk.now in
    let mid = c.settle.new.disk in
    let last = c.condense.new.disk in
    let near = c.in_ok-slot.ensures.honest.0 h in
    let far = c.in_ok-found.ensures.honest.0 near in
    let found = c.in_ok-found.found in (
      read_back (D.content old) (D.content mid) c.in_ok-slot.slot found.db found.entries found.used (c.in_ok-slot.ensures.settles h) (c.in_ok-found.ensures.reads near),
      steady_of c.in_ok-next.next (D.content last) (D.images last (D.clock last)) found.db 0 1 (c.in_ok-next.ensures.stands far) (c.in_ok-next.ensures.durable far),
    )

pub returns-clause-images : goal.returns-clause-images
returns-clause-images g c = λ h db stands.
    let D = g.D.Disk in
    let old = c.args.disk.now in
    let mid = c.settle.new.disk in
    let new = c.read_named.new.disk in
    let last = c.condense.new.disk in
    let near = c.in_ok-slot.ensures.honest.0 h in
    let found = c.in_ok-found.found in
    opens_on (D.clock old) (D.clock mid) (D.clock new) (D.clock last) (D.images old) (D.images mid) (D.images new) (D.images last) (D.content old) (D.content mid) c.in_ok-slot.slot db found.db found.entries found.used
    (c.in_ok-slot.ensures.settles h) (c.in_ok-found.ensures.reads near) stands (c.in_ok-slot.ensures.images h) (c.read_named.ensures.images near) (c.condense.ensures.images (c.in_ok-found.ensures.honest.0 near))

pub returns-then-slot-eq0-clause-finds : goal.returns-then-slot-eq0-clause-finds
returns-then-slot-eq0-clause-finds g c = λ h.
    let D = g.D.Disk in
    let near = c.in_ok-slot.ensures.honest.0 h in
    let slot = c.in_ok-slot.slot in
    let found = c.in_ok-found.found in
    finds_back (D.content c.args.disk.now) (D.content c.settle.new.disk) slot found.db found.entries found.used found.used (c.in_ok-slot.ensures.settles h) (c.in_ok-found.ensures.reads near)
    (used_of_one slot.second found.used c.if-slot-eq0.true)

pub returns-clause-finds : goal.returns-clause-finds
returns-clause-finds g c = λ h.
    let D = g.D.Disk in
    let near = c.in_ok-slot.ensures.honest.0 h in
    let slot = c.in_ok-slot.slot in
    let found = c.in_ok-found.found in
    finds_back (D.content c.args.disk.now) (D.content c.settle.new.disk) slot found.db found.entries found.used 1 (c.in_ok-slot.ensures.settles h) (c.in_ok-found.ensures.reads near)
    (used_of_two slot.second found.used c.if-slot-eq0.false)

pub returns-in_err-slot-clause-foreign_images : goal.returns-in_err-slot-clause-foreign_images
returns-in_err-slot-clause-foreign_images g c = λ h area offset foreign.
    let D = g.D.Disk in
    let old = c.args.disk.now in
    let mid = c.settle.new.disk in
    foreign_settles (D.clock old) (D.clock mid) (D.clock mid + 1) (D.images old) (D.images mid) (D.content old) area offset foreign (g.met.D.Disk.content_is_image old h) (c.in_err-slot.ensures.images h)

pub returns-in_err-found-clause-foreign_images : goal.returns-in_err-found-clause-foreign_images
returns-in_err-found-clause-foreign_images g c = λ h area offset foreign.
    let D = g.D.Disk in
    let old = c.args.disk.now in
    let mid = c.settle.new.disk in
    let new = c.read_named.new.disk in
    foreign_reads (D.clock old) (D.clock mid) (D.clock new) (D.clock mid) (D.images old) (D.images mid) (D.images new) (D.content old) area offset foreign (g.met.D.Disk.content_is_image old h) (c.in_ok-slot.ensures.images h)
    (c.read_named.ensures.images (c.in_ok-slot.ensures.honest.0 h))

pub returns-then-slot-eq0-clause-foreign_images : goal.returns-then-slot-eq0-clause-foreign_images
returns-then-slot-eq0-clause-foreign_images g c = λ h area offset foreign.
    let D = g.D.Disk in
    let old = c.args.disk.now in
    let mid = c.settle.new.disk in
    let new = c.read_named.new.disk in
    foreign_reads (D.clock old) (D.clock mid) (D.clock new) (D.clock mid) (D.images old) (D.images mid) (D.images new) (D.content old) area offset foreign (g.met.D.Disk.content_is_image old h) (c.in_ok-slot.ensures.images h)
    (c.read_named.ensures.images (c.in_ok-slot.ensures.honest.0 h))

pub returns-in_err-next-clause-foreign_images : goal.returns-in_err-next-clause-foreign_images
returns-in_err-next-clause-foreign_images g c = λ h area offset foreign.
    let D = g.D.Disk in
    let old = c.args.disk.now in
    let mid = c.settle.new.disk in
    let near = c.in_ok-slot.ensures.honest.0 h in
    let found = c.in_ok-found.found in
    let back = read_back (D.content old) (D.content mid) c.in_ok-slot.slot found.db found.entries found.used (c.in_ok-slot.ensures.settles h) (c.in_ok-found.ensures.reads near) in
    absurd (standing_is_not_foreign (D.content old) found.db area offset back foreign)

pub returns-clause-foreign_images : goal.returns-clause-foreign_images
returns-clause-foreign_images g c = λ h area offset foreign.
    let D = g.D.Disk in
    let old = c.args.disk.now in
    let mid = c.settle.new.disk in
    let near = c.in_ok-slot.ensures.honest.0 h in
    let found = c.in_ok-found.found in
    let back = read_back (D.content old) (D.content mid) c.in_ok-slot.slot found.db found.entries found.used (c.in_ok-slot.ensures.settles h) (c.in_ok-found.ensures.reads near) in
    absurd (standing_is_not_foreign (D.content old) found.db area offset back foreign)

pub returns-then-slot-eq0-clause-leaves : goal.returns-then-slot-eq0-clause-leaves
returns-then-slot-eq0-clause-leaves g c = λ h.
    let D = g.D.Disk in
    keeps_of_one (D.content c.args.disk.now) (D.content c.settle.new.disk) (D.content c.read_named.new.disk) c.in_ok-slot.slot (c.in_ok-slot.ensures.settles h) (c.read_named.ensures.content (c.in_ok-slot.ensures.honest.0 h))

pub returns-clause-leaves : goal.returns-clause-leaves
returns-clause-leaves g c = λ h.
    let D = g.D.Disk in
    let slot = c.in_ok-slot.slot in
    let last = D.content c.condense.new.disk in
    let near = c.in_ok-slot.ensures.honest.0 h in
    let kept = c.condense.ensures.keeps (c.in_ok-found.ensures.honest.0 near) in
    keeps_of_two (D.content c.args.disk.now) (D.content c.settle.new.disk) last slot (c.in_ok-slot.ensures.settles h) c.if-slot-eq0.false
    (subst (λ (i : Image). KeepsNamedBy slot i last) (c.read_named.ensures.content near) kept)
