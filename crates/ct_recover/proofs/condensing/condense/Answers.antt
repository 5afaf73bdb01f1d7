use Rattle.std.proofs.Common.{length, sym, subst}
use Rattle.ct_faults.specs.Disk.{Image}
use Rattle.ct_found.specs.Checkpoint.{IsCheckpoint}
use Rattle.ct_recover.proofs.Standing.{makes_valid}
use Rattle.ct_recover.specs.Condensing.{KeepsNamedBy}
use Rattle.ct_recover.proofs.Opens.{next_made, condensed_stands, condense_opens, stands_still, only_after, keeps_content}
use Rattle.ct_recover.proofs.condensing.condense.Goals as goal

pub returns-in_err-ready-clause-images : goal.returns-in_err-ready-clause-images
returns-in_err-ready-clause-images g c = λ h.
    let D = g.D.Disk in
    let old = c.args.disk.now in
    let by = c.requires.stands h in
    stands_still (D.clock old) (D.clock c.ready.new.self) (D.images old) (D.images c.ready.new.self) c.args.slot (D.content old) c.args.db.now by.records by.used by.stands (c.requires.only h) (c.ready.ensures.images h)

pub returns-in-Ok-clause-stands : goal.returns-in-Ok-clause-stands
returns-in-Ok-clause-stands g c = λ h.
    let D = g.D.Disk in
    let slot = c.args.slot in
    let next = c.next_of-next.result in
    let bytes = c.as_bytes-bytes.result.now in
    let db = c.args.db.now in
    let by = c.requires.stands h in
    let valid = makes_valid slot (D.content c.args.disk.now) db by.records by.used by.stands.makes in
    let whole = subst (λ l. IsCheckpoint l (length l) db) (sym c.as_bytes-bytes.ensures) (c.in_ok-checkpoint.ensures.checkpoint valid) in
    let made = next_made slot next bytes db c.requires.canonical c.requires.two c.next_of-next.ensures whole in
    condensed_stands next bytes (D.content c.lay_down.new.disk) db made.0.some made.1 made.2 (c.in-Ok.ensures.laid (c.in_ok-ready.ensures.honest.0 h))

pub returns-in-Ok-clause-images : goal.returns-in-Ok-clause-images
returns-in-Ok-clause-images g c = λ h.
    let D = g.D.Disk in
    let old = c.args.disk.now in
    let mid = c.ready.new.self in
    let last = c.lay_down.new.disk in
    let slot = c.args.slot in
    let next = c.next_of-next.result in
    let bytes = c.as_bytes-bytes.result.now in
    let db = c.args.db.now in
    let by = c.requires.stands h in
    let valid = makes_valid slot (D.content old) db by.records by.used by.stands.makes in
    let whole = subst (λ l. IsCheckpoint l (length l) db) (sym c.as_bytes-bytes.ensures) (c.in_ok-checkpoint.ensures.checkpoint valid) in
    let made = next_made slot next bytes db c.requires.canonical c.requires.two c.next_of-next.ensures whole in
    condense_opens (D.clock old) (D.clock mid) (D.clock last) (D.images old) (D.images mid) (D.images last) slot next bytes (D.content old) (D.content mid) db by.records by.used c.requires.canonical by.stands made.0.some made.1 made.2
    (c.in_ok-ready.ensures.content h) (c.requires.only h) (c.in_ok-ready.ensures.images h) (c.lay_down.ensures.images (c.in_ok-ready.ensures.honest.0 h))

pub returns-clause-images : goal.returns-clause-images
returns-clause-images g c = λ h.
    let D = g.D.Disk in
    let old = c.args.disk.now in
    let mid = c.ready.new.self in
    let last = c.lay_down.new.disk in
    let slot = c.args.slot in
    let next = c.next_of-next.result in
    let bytes = c.as_bytes-bytes.result.now in
    let db = c.args.db.now in
    let by = c.requires.stands h in
    let valid = makes_valid slot (D.content old) db by.records by.used by.stands.makes in
    let whole = subst (λ l. IsCheckpoint l (length l) db) (sym c.as_bytes-bytes.ensures) (c.in_ok-checkpoint.ensures.checkpoint valid) in
    let made = next_made slot next bytes db c.requires.canonical c.requires.two c.next_of-next.ensures whole in
    condense_opens (D.clock old) (D.clock mid) (D.clock last) (D.images old) (D.images mid) (D.images last) slot next bytes (D.content old) (D.content mid) db by.records by.used c.requires.canonical by.stands made.0.some made.1 made.2
    (c.in_ok-ready.ensures.content h) (c.requires.only h) (c.in_ok-ready.ensures.images h) (c.lay_down.ensures.images (c.in_ok-ready.ensures.honest.0 h))

pub returns-in-Ok-clause-keeps : goal.returns-in-Ok-clause-keeps
returns-in-Ok-clause-keeps g c = λ h.
    let D = g.D.Disk in
    let old = c.args.disk.now in
    let mid = c.ready.new.self in
    let last = c.lay_down.new.disk in
    let near = c.in_ok-ready.ensures.honest.0 h in
    let same = c.in_ok-ready.ensures.content h in
    subst (λ (i : Image). KeepsNamedBy c.args.slot i (D.content last)) same
    (keeps_content (D.clock mid) (D.clock last) (D.images mid) (D.images last) c.args.slot c.next_of-next.result c.as_bytes-bytes.result.now (D.content mid) (D.content last)
    (only_after (D.clock old) (D.clock mid) (D.images old) (D.images mid) (D.content old) (D.content mid) (c.in_ok-ready.ensures.images h) (c.requires.only h) same)
    (c.lay_down.ensures.images near) (g.met.D.Disk.content_is_image last (c.lay_down.ensures.honest.0 near)))

pub returns-clause-keeps : goal.returns-clause-keeps
returns-clause-keeps g c = λ h.
    let D = g.D.Disk in
    let old = c.args.disk.now in
    let mid = c.ready.new.self in
    let last = c.lay_down.new.disk in
    let near = c.in_ok-ready.ensures.honest.0 h in
    let same = c.in_ok-ready.ensures.content h in
    subst (λ (i : Image). KeepsNamedBy c.args.slot i (D.content last)) same
    (keeps_content (D.clock mid) (D.clock last) (D.images mid) (D.images last) c.args.slot c.next_of-next.result c.as_bytes-bytes.result.now (D.content mid) (D.content last)
    (only_after (D.clock old) (D.clock mid) (D.images old) (D.images mid) (D.content old) (D.content mid) (c.in_ok-ready.ensures.images h) (c.requires.only h) same)
    (c.lay_down.ensures.images near) (g.met.D.Disk.content_is_image last (c.lay_down.ensures.honest.0 near)))
