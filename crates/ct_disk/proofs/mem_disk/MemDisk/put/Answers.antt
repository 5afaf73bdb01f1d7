use Rattle.std.proofs.Common.{◌≡◌, ◌+◌, ◌-◌, ◌<◌, ◌≤◌, ◌++◌, ◌∷◌, [], ℕ, List, length, arith, ap, sym, subst, ◌∙◌, length-append}
use Rattle.ct_faults.specs.Disk.{Image, overwritten}
use Rattle.ct_disk.specs.Areas.{contents_of, image_of}
use Rattle.ct_disk.specs.Steps.{content_after}
use Rattle.ct_disk.specs.Steps.Step.{Wrote}
use Rattle.ct_disk.specs.Mem.{DiskState, stepped, steps_of}
use Rattle.ct_disk.proofs.Recorded.{steps-wrote, placed, kept-step}
use Rattle.ct_disk.proofs.mem_disk.MemDisk.put.Goals as goal

pub returns : goal.returns
returns c =
    let d = c.self.inside in
    let grows : steps_of c.keep_bytes.new.written.items c.keep_call.new.calls.items ≡ steps_of d.written.items d.calls.items ++ Wrote c.args.area c.args.at c.args.bytes.now ∷ [] =
    steps-wrote d.written.items c.keep_bytes.new.written.items c.args.bytes.now d.calls.items c.keep_call.new.calls.items c.args.area c.args.at c.len.result (c.len.ensures ∙ d.written.ok.0) c.self.invariant.within c.keep_bytes.ensures.items c.keep_call.ensures.items in
    (λ i. record { first = contents_of d.first.items; steps = grows i; room_calls = d.room_calls - 1; room_bytes = d.room_bytes - length c.args.bytes.now; made = d.made; failing = d.failing.items; fuse = d.fuse; faults = d.faults })
    ∙ ap (λ (v : DiskState). stepped v (Wrote c.args.area c.args.at c.args.bytes.now) (length c.args.bytes.now)) c.self.view_is

pub invariant_of-self : goal.invariant_of-self
invariant_of-self c =
    let d = c.self.inside in
    let k = c.self.invariant in
    let bytes : List ℕ = c.args.bytes.now in
    let some : 0 < d.room_calls = subst (λ (n : ℕ). 0 < n) (sym (ap (λ (v : DiskState). v.room_calls) c.self.view_is)) c.requires.room_calls in
    let fits : length bytes ≤ d.room_bytes = subst (λ (n : ℕ). length bytes ≤ n) (sym (ap (λ (v : DiskState). v.room_bytes) c.self.view_is)) c.requires.room_bytes in
    let longer : length c.keep_bytes.new.written.items ≡ length d.written.items + length bytes = ap length c.keep_bytes.ensures.items ∙ length-append d.written.items bytes in
    let grows : steps_of c.keep_bytes.new.written.items c.keep_call.new.calls.items ≡ steps_of d.written.items d.calls.items ++ Wrote c.args.area c.args.at bytes ∷ [] =
    steps-wrote d.written.items c.keep_bytes.new.written.items bytes d.calls.items c.keep_call.new.calls.items c.args.area c.args.at c.len.result (c.len.ensures ∙ d.written.ok.0) k.within c.keep_bytes.ensures.items c.keep_call.ensures.items in
    let image : Image = content_after (image_of (contents_of d.first.items)) (steps_of d.written.items d.calls.items) in
    kept-step d.first.items d.areas.items c.put_at.new.areas.items d.calls c.keep_call.new.calls d.written c.keep_bytes.new.written d.room_calls d.room_bytes (d.room_bytes - length bytes)
    (Wrote c.args.area c.args.at bytes) _ k grows c.keep_call.ensures.items
    (c.requires.area, omega (arith, longer, c.len.ensures, d.written.ok.0)) (omega (arith, longer)) c.keep_call.ensures.capacity some
    (omega (arith, longer, c.keep_bytes.ensures.capacity, k.bytes_fit, fits)) (c.put_at.ensures.count ∙ k.count) c.put_at.ensures.room
    (placed d.areas.items c.put_at.new.areas.items image c.args.area (overwritten c.args.at bytes (image c.args.area)) k.is
    (c.put_at.ensures.written ∙ ap (overwritten c.args.at bytes) (k.is c.args.area)) c.put_at.ensures.others)
