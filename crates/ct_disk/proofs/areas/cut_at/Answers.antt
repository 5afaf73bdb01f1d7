use Rattle.std.proofs.Common.{take, length, arith, ap, sym, ◌∙◌, length-take}
use Rattle.ct_disk.proofs.Placed.{area_at-read, area_at-set, area_at-other, HaveRoom-at, HaveRoom-set}
use Rattle.ct_disk.proofs.areas.cut_at.Goals as goal

pub returns-clause-written : goal.returns-clause-written
returns-clause-written c =
    let is = area_at-read c.args.areas.now.items c.args.area c.index_mut-there.result.now c.requires.area c.index_mut-there.ensures.value in
    area_at-set _ _ _ c.requires.area ∙ c.truncate.ensures.items ∙ ap (take c.args.len) (sym is)

pub returns-clause-others : goal.returns-clause-others
returns-clause-others c = λ other ne. area_at-other _ _ other _ ne

pub returns-clause-room : goal.returns-clause-room
returns-clause-room c =
    let had = HaveRoom-at c.args.room c.args.areas.now.items c.args.area c.index_mut-there.result.now c.requires.area c.index_mut-there.ensures.value c.requires.room in
    HaveRoom-set c.args.room _ _ _ _ (omega arith) c.requires.room (omega (arith, had, ap length c.truncate.ensures.items, length-take c.args.len c.index_mut-there.result.now.items, c.truncate.ensures.capacity))
