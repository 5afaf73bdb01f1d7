use Rattle.std.proofs.Common.{◌≡◌, ap, sym, ◌∙◌, arith, set, []}
use Rattle.ct_disk.specs.Areas.{contents_of}
use Rattle.ct_disk.specs.Mem.{DiskState, with_first, steps_of}
use Rattle.ct_disk.proofs.Placed.{contents-set}
use Rattle.ct_disk.proofs.Recorded.{kept-set}
use Rattle.ct_disk.proofs.mem_disk.MemDisk.set.Goals as goal

pub invariant_of-self : goal.invariant_of-self
invariant_of-self c =
    let d = c.self.inside in
    let none : steps_of d.written.items d.calls.items ≡ [] = ap (λ (v : DiskState). v.steps) c.self.view_is ∙ c.requires.steps in
    kept-set d.first.items d.areas.items d.calls d.written d.room_calls d.room_bytes c.args.area c.in_ok-first.first c.reserve.new.self c.self.invariant
    c.requires.area (c.reserve.ensures.items ∙ c.in_ok-there.ensures.items ∙ sym c.in_ok-first.ensures.items) none
    (omega (arith, c.in_ok-reserve.ensures.ok, c.in_ok-reserve.ensures.len, c.reserve.new.self.ok.0))

pub returns-clause-ok : goal.returns-clause-ok
returns-clause-ok c =
    let d = c.self.inside in
    let firsts : contents_of (set d.first.items c.args.area c.in_ok-first.first) ≡ set (contents_of d.first.items) c.args.area c.args.bytes.now =
    contents-set d.first.items c.args.area c.in_ok-first.first ∙ ap (set (contents_of d.first.items) c.args.area) c.in_ok-first.ensures.items in
    (λ i. record { first = firsts i; steps = steps_of d.written.items d.calls.items; room_calls = d.room_calls; room_bytes = d.room_bytes; made = d.made; failing = d.failing.items; fuse = d.fuse; faults = d.faults })
    ∙ ap (λ (v : DiskState). with_first v (set v.first c.args.area c.args.bytes.now)) c.self.view_is
