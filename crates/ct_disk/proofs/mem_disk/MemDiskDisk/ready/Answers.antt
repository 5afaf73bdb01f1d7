use Rattle.std.proofs.Common.{◌≡◌, ap, ◌∙◌, arith, length}
use Rattle.ct_disk.specs.Areas.{contents_of}
use Rattle.ct_disk.specs.Mem.{DiskState, with_room, steps_of}
use Rattle.ct_disk.proofs.Passing.{roomed-content, roomed-runs}
use Rattle.ct_disk.proofs.Recorded.{kept-roomier}
use Rattle.ct_disk.proofs.mem_disk.MemDiskDisk.ready.Goals as goal

pub invariant_of-self : goal.invariant_of-self
invariant_of-self c =
    let d = c.self.inside in
    let m = c.make_room.ensures in
    kept-roomier d.first.items d.areas.items c.make_room.new.areas.items d.calls c.make_room.new.calls d.written c.make_room.new.written d.room_calls d.room_bytes c.max-calls.result c.max-bytes.result
    c.self.invariant m.areas m.count m.calls m.written c.in-Ok.ensures.calls_fit c.in-Ok.ensures.bytes_fit c.in-Ok.ensures.room

pub invariant_of-self-in-Err : goal.invariant_of-self-in-Err
invariant_of-self-in-Err c =
    let d = c.self.inside in
    let k = c.self.invariant in
    let m = c.make_room.ensures in
    kept-roomier d.first.items d.areas.items c.make_room.new.areas.items d.calls c.make_room.new.calls d.written c.make_room.new.written d.room_calls d.room_bytes d.room_calls d.room_bytes
    k m.areas m.count m.calls m.written (omega (arith, ap length m.calls, m.calls_grow, k.calls_fit)) (omega (arith, ap length m.written, m.written_grow, k.bytes_fit)) (m.keeps d.room_bytes k.room)

pub returns-in-Ok-clause-content : goal.returns-in-Ok-clause-content
returns-in-Ok-clause-content c =
    let d = c.self.inside in
    let m = c.make_room.ensures in
    let now : DiskState = record { first = contents_of d.first.items; steps = steps_of c.make_room.new.written.items c.make_room.new.calls.items; room_calls = c.max-calls.result; room_bytes = c.max-bytes.result; made = d.made; failing = d.failing.items; fuse = d.fuse; faults = d.faults } in
    let is : now ≡ with_room c.args.self.now c.max-calls.result c.max-bytes.result =
    (λ i. record { first = contents_of d.first.items; steps = steps_of (m.written i) (m.calls i); room_calls = c.max-calls.result; room_bytes = c.max-bytes.result; made = d.made; failing = d.failing.items; fuse = d.fuse; faults = d.faults })
    ∙ ap (λ (v : DiskState). with_room v c.max-calls.result c.max-bytes.result) c.self.view_is in
    roomed-content c.args.self.now now c.max-calls.result c.max-bytes.result is

pub returns-in-Ok-clause-images : goal.returns-in-Ok-clause-images
returns-in-Ok-clause-images c =
    let d = c.self.inside in
    let m = c.make_room.ensures in
    let now : DiskState = record { first = contents_of d.first.items; steps = steps_of c.make_room.new.written.items c.make_room.new.calls.items; room_calls = c.max-calls.result; room_bytes = c.max-bytes.result; made = d.made; failing = d.failing.items; fuse = d.fuse; faults = d.faults } in
    let is : now ≡ with_room c.args.self.now c.max-calls.result c.max-bytes.result =
    (λ i. record { first = contents_of d.first.items; steps = steps_of (m.written i) (m.calls i); room_calls = c.max-calls.result; room_bytes = c.max-bytes.result; made = d.made; failing = d.failing.items; fuse = d.fuse; faults = d.faults })
    ∙ ap (λ (v : DiskState). with_room v c.max-calls.result c.max-bytes.result) c.self.view_is in
    roomed-runs c.args.self.now now c.max-calls.result c.max-bytes.result is

pub returns-in-Ok-clause-faults : goal.returns-in-Ok-clause-faults
returns-in-Ok-clause-faults c =
    let d = c.self.inside in
    let m = c.make_room.ensures in
    let now : DiskState = record { first = contents_of d.first.items; steps = steps_of c.make_room.new.written.items c.make_room.new.calls.items; room_calls = c.max-calls.result; room_bytes = c.max-bytes.result; made = d.made; failing = d.failing.items; fuse = d.fuse; faults = d.faults } in
    let is : now ≡ with_room c.args.self.now c.max-calls.result c.max-bytes.result =
    (λ i. record { first = contents_of d.first.items; steps = steps_of (m.written i) (m.calls i); room_calls = c.max-calls.result; room_bytes = c.max-bytes.result; made = d.made; failing = d.failing.items; fuse = d.fuse; faults = d.faults })
    ∙ ap (λ (v : DiskState). with_room v c.max-calls.result c.max-bytes.result) c.self.view_is in
    ap (λ (v : DiskState). v.faults) is

pub returns-in-Ok-clause-state : goal.returns-in-Ok-clause-state
returns-in-Ok-clause-state c =
    let d = c.self.inside in
    let m = c.make_room.ensures in
    let now : DiskState = record { first = contents_of d.first.items; steps = steps_of c.make_room.new.written.items c.make_room.new.calls.items; room_calls = c.max-calls.result; room_bytes = c.max-bytes.result; made = d.made; failing = d.failing.items; fuse = d.fuse; faults = d.faults } in
    let is : now ≡ with_room c.args.self.now c.max-calls.result c.max-bytes.result =
    (λ i. record { first = contents_of d.first.items; steps = steps_of (m.written i) (m.calls i); room_calls = c.max-calls.result; room_bytes = c.max-bytes.result; made = d.made; failing = d.failing.items; fuse = d.fuse; faults = d.faults })
    ∙ ap (λ (v : DiskState). with_room v c.max-calls.result c.max-bytes.result) c.self.view_is in
    is

pub returns-in-Err-clause-content : goal.returns-in-Err-clause-content
returns-in-Err-clause-content c =
    let d = c.self.inside in
    let m = c.make_room.ensures in
    let now : DiskState = record { first = contents_of d.first.items; steps = steps_of c.make_room.new.written.items c.make_room.new.calls.items; room_calls = d.room_calls; room_bytes = d.room_bytes; made = d.made; failing = d.failing.items; fuse = d.fuse; faults = d.faults } in
    let is : now ≡ with_room c.args.self.now d.room_calls d.room_bytes =
    (λ i. record { first = contents_of d.first.items; steps = steps_of (m.written i) (m.calls i); room_calls = d.room_calls; room_bytes = d.room_bytes; made = d.made; failing = d.failing.items; fuse = d.fuse; faults = d.faults })
    ∙ ap (λ (v : DiskState). with_room v d.room_calls d.room_bytes) c.self.view_is in
    roomed-content c.args.self.now now d.room_calls d.room_bytes is

pub returns-in-Err-clause-images : goal.returns-in-Err-clause-images
returns-in-Err-clause-images c =
    let d = c.self.inside in
    let m = c.make_room.ensures in
    let now : DiskState = record { first = contents_of d.first.items; steps = steps_of c.make_room.new.written.items c.make_room.new.calls.items; room_calls = d.room_calls; room_bytes = d.room_bytes; made = d.made; failing = d.failing.items; fuse = d.fuse; faults = d.faults } in
    let is : now ≡ with_room c.args.self.now d.room_calls d.room_bytes =
    (λ i. record { first = contents_of d.first.items; steps = steps_of (m.written i) (m.calls i); room_calls = d.room_calls; room_bytes = d.room_bytes; made = d.made; failing = d.failing.items; fuse = d.fuse; faults = d.faults })
    ∙ ap (λ (v : DiskState). with_room v d.room_calls d.room_bytes) c.self.view_is in
    roomed-runs c.args.self.now now d.room_calls d.room_bytes is

pub returns-in-Err-clause-faults : goal.returns-in-Err-clause-faults
returns-in-Err-clause-faults c =
    let d = c.self.inside in
    let m = c.make_room.ensures in
    let now : DiskState = record { first = contents_of d.first.items; steps = steps_of c.make_room.new.written.items c.make_room.new.calls.items; room_calls = d.room_calls; room_bytes = d.room_bytes; made = d.made; failing = d.failing.items; fuse = d.fuse; faults = d.faults } in
    let is : now ≡ with_room c.args.self.now d.room_calls d.room_bytes =
    (λ i. record { first = contents_of d.first.items; steps = steps_of (m.written i) (m.calls i); room_calls = d.room_calls; room_bytes = d.room_bytes; made = d.made; failing = d.failing.items; fuse = d.fuse; faults = d.faults })
    ∙ ap (λ (v : DiskState). with_room v d.room_calls d.room_bytes) c.self.view_is in
    ap (λ (v : DiskState). v.faults) is

pub returns-in-Err-clause-state : goal.returns-in-Err-clause-state
returns-in-Err-clause-state c =
    let d = c.self.inside in
    let m = c.make_room.ensures in
    let now : DiskState = record { first = contents_of d.first.items; steps = steps_of c.make_room.new.written.items c.make_room.new.calls.items; room_calls = d.room_calls; room_bytes = d.room_bytes; made = d.made; failing = d.failing.items; fuse = d.fuse; faults = d.faults } in
    let is : now ≡ with_room c.args.self.now d.room_calls d.room_bytes =
    (λ i. record { first = contents_of d.first.items; steps = steps_of (m.written i) (m.calls i); room_calls = d.room_calls; room_bytes = d.room_bytes; made = d.made; failing = d.failing.items; fuse = d.fuse; faults = d.faults })
    ∙ ap (λ (v : DiskState). with_room v d.room_calls d.room_bytes) c.self.view_is in
    is
