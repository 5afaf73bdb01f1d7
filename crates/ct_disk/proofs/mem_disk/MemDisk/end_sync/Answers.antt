use Rattle.std.proofs.Common.{◌≡◌, ◌-◌, ◌<◌, ◌++◌, ◌∷◌, [], ℕ, arith, ap, sym, subst, ◌∙◌}
use Rattle.ct_disk.specs.Areas.{contents_of}
use Rattle.ct_disk.specs.Steps.Step.{EndedSync}
use Rattle.ct_disk.specs.Mem.{DiskState, stepped, steps_of}
use Rattle.ct_disk.specs.declared.call.Call.TheVariants.{Sync}
use Rattle.ct_disk.proofs.Recorded.{steps-noted, kept-step}
use Rattle.ct_disk.proofs.mem_disk.MemDisk.end_sync.Goals as goal

pub returns : goal.returns
returns c =
    let d = c.self.inside in
    let grows : steps_of d.written.items c.keep_call.new.calls.items ≡ steps_of d.written.items d.calls.items ++ EndedSync c.args.ok ∷ [] =
    steps-noted d.written.items d.calls.items c.keep_call.new.calls.items (Sync c.args.ok) c.keep_call.ensures.items in
    let bytes : d.room_bytes ≡ d.room_bytes - 0 = omega arith in
    (λ i. record { first = contents_of d.first.items; steps = grows i; room_calls = d.room_calls - 1; room_bytes = bytes i; made = d.made; failing = d.failing.items; fuse = d.fuse; faults = d.faults })
    ∙ ap (λ (v : DiskState). stepped v (EndedSync c.args.ok) 0) c.self.view_is

pub invariant_of-self : goal.invariant_of-self
invariant_of-self c =
    let d = c.self.inside in
    let k = c.self.invariant in
    let some : 0 < d.room_calls = subst (λ (n : ℕ). 0 < n) (sym (ap (λ (v : DiskState). v.room_calls) c.self.view_is)) c.requires in
    let grows : steps_of d.written.items c.keep_call.new.calls.items ≡ steps_of d.written.items d.calls.items ++ EndedSync c.args.ok ∷ [] =
    steps-noted d.written.items d.calls.items c.keep_call.new.calls.items (Sync c.args.ok) c.keep_call.ensures.items in
    kept-step d.first.items d.areas.items d.areas.items d.calls c.keep_call.new.calls d.written d.written d.room_calls d.room_bytes d.room_bytes
    (EndedSync c.args.ok) (Sync c.args.ok) k grows c.keep_call.ensures.items
    tt (omega arith) c.keep_call.ensures.capacity some
    k.bytes_fit k.count k.room k.is
