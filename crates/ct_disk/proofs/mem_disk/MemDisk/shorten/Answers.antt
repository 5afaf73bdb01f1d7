use Rattle.std.proofs.Common.{◌≡◌, ◌-◌, ◌<◌, ◌++◌, ◌∷◌, [], ℕ, arith, ap, sym, subst, ◌∙◌, take}
use Rattle.ct_faults.specs.Disk.{Image}
use Rattle.ct_disk.specs.Areas.{contents_of, image_of}
use Rattle.ct_disk.specs.Steps.{content_after}
use Rattle.ct_disk.specs.Steps.Step.{WasCut}
use Rattle.ct_disk.specs.Mem.{DiskState, stepped, steps_of}
use Rattle.ct_disk.specs.declared.call.Call.TheVariants.{Cut}
use Rattle.ct_disk.proofs.Recorded.{steps-noted, placed, kept-step}
use Rattle.ct_disk.proofs.mem_disk.MemDisk.shorten.Goals as goal

pub returns : goal.returns
returns c =
    let d = c.self.inside in
    let grows : steps_of d.written.items c.keep_call.new.calls.items ≡ steps_of d.written.items d.calls.items ++ WasCut c.args.area c.args.len ∷ [] =
    steps-noted d.written.items d.calls.items c.keep_call.new.calls.items (Cut c.args.area c.args.len) c.keep_call.ensures.items in
    let bytes : d.room_bytes ≡ d.room_bytes - 0 = omega arith in
    (λ i. record { first = contents_of d.first.items; steps = grows i; room_calls = d.room_calls - 1; room_bytes = bytes i; made = d.made; failing = d.failing.items; fuse = d.fuse; faults = d.faults })
    ∙ ap (λ (v : DiskState). stepped v (WasCut c.args.area c.args.len) 0) c.self.view_is

pub invariant_of-self : goal.invariant_of-self
invariant_of-self c =
    let d = c.self.inside in
    let k = c.self.invariant in
    let some : 0 < d.room_calls = subst (λ (n : ℕ). 0 < n) (sym (ap (λ (v : DiskState). v.room_calls) c.self.view_is)) c.requires.room_calls in
    let grows : steps_of d.written.items c.keep_call.new.calls.items ≡ steps_of d.written.items d.calls.items ++ WasCut c.args.area c.args.len ∷ [] =
    steps-noted d.written.items d.calls.items c.keep_call.new.calls.items (Cut c.args.area c.args.len) c.keep_call.ensures.items in
    let image : Image = content_after (image_of (contents_of d.first.items)) (steps_of d.written.items d.calls.items) in
    kept-step d.first.items d.areas.items c.cut_at.new.areas.items d.calls c.keep_call.new.calls d.written d.written d.room_calls d.room_bytes d.room_bytes
    (WasCut c.args.area c.args.len) (Cut c.args.area c.args.len) k grows c.keep_call.ensures.items
    c.requires.area (omega arith) c.keep_call.ensures.capacity some
    k.bytes_fit (c.cut_at.ensures.count ∙ k.count) c.cut_at.ensures.room
    (placed d.areas.items c.cut_at.new.areas.items image c.args.area (take c.args.len (image c.args.area)) k.is
    (c.cut_at.ensures.written ∙ ap (take c.args.len) (k.is c.args.area)) c.cut_at.ensures.others)
