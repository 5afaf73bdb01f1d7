use Rattle.std.proofs.Common.{rules, ◌≡◌, ◌+◌, length, sym, subst}
use Rattle.ct_codec.specs.Spellings.{spell_entry, bare}
use Rattle.ct_found.specs.Found.{last_of}
use Rattle.ct_recover.specs.Volume.{IsFrameOf}
use Rattle.ct_recover.proofs.Appending.{append_images, append_steady_on, append_elsewhere_on}
use Rattle.ct_recover.proofs.volume.Volume.append.Goals as goal

pub returns-clause-images : goal.returns-clause-images
returns-clause-images g c = λ h db steady applies.
    let a = c.args in
    let D = g.D.Disk in
    let old = a.self.now in
    let size = length (spell_entry (bare a.entry.now)) + 5 in
    let is : old.log.area ≡ last_of old.current = search rules in
    let frame = subst (λ body. IsFrameOf a.entry.now size body) (sym c.as_bytes.ensures) c.in_ok-body.ensures in
    append_images old.current old.log.used old.log.area (D.clock old.disk) (D.clock c.append_frame.new.disk) size (D.content old.disk) (D.images old.disk) (D.images c.append_frame.new.disk) db a.entry.now c.as_bytes.result.now is steady applies frame
    (c.append_frame.ensures.images h)

pub returns-clause-appended : goal.returns-clause-appended
returns-clause-appended g c = λ h.
    let a = c.args in
    let D = g.D.Disk in
    let old = a.self.now in
    let call = c.append_frame.ensures in
    let size = length (spell_entry (bare a.entry.now)) + 5 in
    let is : old.log.area ≡ last_of old.current = search rules in
    let frame = subst (λ body. IsFrameOf a.entry.now size body) (sym c.as_bytes.ensures) c.in_ok-body.ensures in
    append_steady_on c.append_frame.result old.current old.log.used old.log.area c.append_frame.new.log.used size (D.content old.disk) (D.content c.append_frame.new.disk) (D.images old.disk (D.clock old.disk))
    (D.images c.append_frame.new.disk (D.clock c.append_frame.new.disk)) a.entry.now c.as_bytes.result.now is frame (g.met.D.Disk.content_is_image old.disk h) call.ok (call.durable h) (call.appended h)

pub returns-clause-elsewhere : goal.returns-clause-elsewhere
returns-clause-elsewhere g c = λ h.
    let a = c.args in
    let D = g.D.Disk in
    let old = a.self.now in
    let is : old.log.area ≡ last_of old.current = search rules in
    append_elsewhere_on c.append_frame.result old.current old.log.used old.log.area (D.content old.disk) (D.content c.append_frame.new.disk) (D.images old.disk (D.clock old.disk)) a.entry.now c.as_bytes.result.now is (c.requires.takes h)
    (c.append_frame.ensures.appended h)
