use Rattle.std.proofs.Common.{◌≡◌, ◌<◌, min, length, ap, ◌∙◌, List, ℕ, arith}
use Rattle.ct_faults.specs.Disk.{Image, overwritten}
use Rattle.ct_disk.specs.Areas.{area_at, image_of}
use Rattle.ct_disk.proofs.Placed.{area_at-read}
use Rattle.ct_disk.proofs.Crashes.{overwritten-near, image-changed}
use Rattle.ct_disk.proofs.replay.write_again.Goals as goal

pub put_at-requires-clause-at : goal.put_at-requires-clause-at
put_at-requires-clause-at c =
    let some : c.args.area < length c.reserve_all.new.areas.items = omega (arith, c.requires.area, c.requires.count, c.reserve_all.ensures.count) in
    let is = area_at-read c.reserve_all.new.areas.items c.args.area c.index-there.result.now some c.index-there.ensures in
    omega (arith, ap length is, c.min-at.ensures, c.len.ensures ∙ c.index-there.result.now.ok.0)

pub put_at-requires-clause-room : goal.put_at-requires-clause-room
put_at-requires-clause-room c = c.in_ok-reserve_all.ensures.room

pub returns-clause-image : goal.returns-clause-image
returns-clause-image c =
    let some : c.args.area < length c.reserve_all.new.areas.items = omega (arith, c.requires.area, c.requires.count, c.reserve_all.ensures.count) in
    let old : Image = area_at c.args.areas.now.items in
    let mid : Image = area_at c.reserve_all.new.areas.items in
    let area : ℕ = c.args.area in
    let bytes : List ℕ = c.args.bytes.now in
    let same : mid ≡ old = ap image_of c.reserve_all.ensures.items in
    let is : mid area ≡ c.index-there.result.now.items = area_at-read c.reserve_all.new.areas.items area c.index-there.result.now some c.index-there.ensures in
    let near : c.min-at.result ≡ min (length (mid area)) c.args.at = omega (arith, ap length is, c.min-at.ensures, c.len.ensures ∙ c.index-there.result.now.ok.0) in
    image-changed old (area_at c.put_at.new.areas.items) area (overwritten c.args.at bytes (old area))
    (c.put_at.ensures.written ∙ ap (λ (n : ℕ). overwritten n bytes (mid area)) near ∙ overwritten-near c.args.at bytes (mid area) ∙ ap (λ (image : Image). overwritten c.args.at bytes (image area)) same)
    (λ other ne. c.put_at.ensures.others other ne ∙ ap (λ (image : Image). image other) same)
