use Rattle.std.proofs.Common.{◌≡◌, ap, sym, ◌∙◌, length}
use Rattle.ct_disk.specs.Areas.{contents_of}
use Rattle.ct_disk.proofs.Placed.{contents-length}
use Rattle.ct_disk.proofs.Recorded.{kept-new}
use Rattle.ct_disk.proofs.mem_disk.MemDisk.over.Goals as goal

pub invariant_of-result : goal.invariant_of-result
invariant_of-result c =
    let same : contents_of c.in_ok-areas.areas.items ≡ contents_of c.args.first.items = c.in_ok-areas.ensures ∙ ap contents_of c.as_slice.ensures.value in
    kept-new c.args.first.items c.in_ok-areas.areas.items c.new.result c.new-2.result same c.requires
    (sym (contents-length c.in_ok-areas.areas.items) ∙ ap length same ∙ contents-length c.args.first.items ∙ c.requires) c.new.ensures.items
