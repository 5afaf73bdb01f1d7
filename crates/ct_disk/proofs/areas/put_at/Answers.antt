use Rattle.std.proofs.Common.{◌≡◌, ◌+◌, List, ℕ, ◌++◌, take, drop, length, arith, ap, sym, ◌∙◌, length-append, length-take, length-drop}
use Rattle.ct_faults.specs.Disk.{overwritten}
use Rattle.ct_disk.proofs.Placed.{area_at-read, area_at-set, area_at-other, HaveRoom-at, HaveRoom-set}
use Rattle.ct_disk.proofs.areas.put_at.Goals as goal

pub overwrite-requires-clause-at : goal.overwrite-requires-clause-at
overwrite-requires-clause-at c = omega (arith, c.requires.at, ap length (area_at-read _ c.args.area c.index_mut-there.result.now c.requires.area c.index_mut-there.ensures.value))

pub overwrite-requires-clause-room : goal.overwrite-requires-clause-room
overwrite-requires-clause-room c = omega (arith, c.requires.fits, HaveRoom-at c.args.room _ c.args.area c.index_mut-there.result.now c.requires.area c.index_mut-there.ensures.value c.requires.room)

pub returns-clause-written : goal.returns-clause-written
returns-clause-written c =
    let is = area_at-read c.args.areas.now.items c.args.area c.index_mut-there.result.now c.requires.area c.index_mut-there.ensures.value in
    area_at-set _ _ _ c.requires.area ∙ c.overwrite.ensures.written ∙ ap (overwritten c.args.at c.args.bytes.now) (sym is)

pub returns-clause-others : goal.returns-clause-others
returns-clause-others c = λ other ne. area_at-other _ _ other _ ne

pub returns-clause-room : goal.returns-clause-room
returns-clause-room c =
    let had = HaveRoom-at c.args.room c.args.areas.now.items c.args.area c.index_mut-there.result.now c.requires.area c.index_mut-there.ensures.value c.requires.room in
    let bytes : List ℕ = c.args.bytes.now in
    let old : List ℕ = c.index_mut-there.result.now.items in
    let at : ℕ = c.args.at in
    let long : length c.overwrite.new.bytes_there.items ≡ length (take at old ++ bytes ++ drop (at + length bytes) old) = ap length c.overwrite.ensures.written in
    HaveRoom-set c.args.room _ _ _ _ (omega arith) c.requires.room
    (omega (arith, had, long, c.requires.at, ap length (area_at-read c.args.areas.now.items c.args.area c.index_mut-there.result.now c.requires.area c.index_mut-there.ensures.value), c.overwrite.ensures.capacity, c.requires.fits, length-append (take at old ++ bytes) (drop (at + length bytes) old), length-append (take at old) bytes, length-take at old, length-drop (at + length bytes) old))
