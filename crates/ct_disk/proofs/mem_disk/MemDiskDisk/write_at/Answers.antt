use Rattle.std.proofs.Common.{◌∙◌, ap, refl, is_err, length, arith}
use Rattle.ct_disk.specs.Mem.{DiskState, counted, stepped}
use Rattle.ct_disk.specs.Steps.Step.{Wrote}
use Rattle.ct_disk.proofs.Passing.{on_ok, stepped-rises, stepped-room, wrote-runs, wrote-changes, counted-cause}
use Rattle.ct_disk.proofs.mem_disk.MemDiskDisk.write_at.Goals as goal

pub returns-clause-written : goal.returns-clause-written
returns-clause-written c =
    let is = c.count.ensures.state ∙ ap (λ (v : DiskState). counted v (is_err c.count.result)) c.put.ensures in
    on_ok c.count.result _ (wrote-changes c.args.self.now _ (is_err c.count.result) c.args.area c.args.at c.args.bytes.now (length c.args.bytes.now) is)

pub returns-clause-rises : goal.returns-clause-rises
returns-clause-rises c =
    let is = c.count.ensures.state ∙ ap (λ (v : DiskState). counted v (is_err c.count.result)) c.put.ensures in
    stepped-rises c.args.self.now _ (is_err c.count.result) (Wrote c.args.area c.args.at c.args.bytes.now) (length c.args.bytes.now) is

pub returns-clause-images : goal.returns-clause-images
returns-clause-images c =
    let is = c.count.ensures.state ∙ ap (λ (v : DiskState). counted v (is_err c.count.result)) c.put.ensures in
    wrote-runs c.args.self.now _ (is_err c.count.result) c.args.area c.args.at c.args.bytes.now (length c.args.bytes.now) is

pub returns-clause-room : goal.returns-clause-room
returns-clause-room c =
    let is = c.count.ensures.state ∙ ap (λ (v : DiskState). counted v (is_err c.count.result)) c.put.ensures in
    stepped-room c.args.self.now _ (is_err c.count.result) (Wrote c.args.area c.args.at c.args.bytes.now) (length c.args.bytes.now) is c.requires.room_calls c.requires.room_bytes

pub returns-clause-cause : goal.returns-clause-cause
returns-clause-cause c =
    let is = c.count.ensures.state ∙ ap (λ (v : DiskState). counted v (is_err c.count.result)) c.put.ensures in
    counted-cause (stepped c.args.self.now (Wrote c.args.area c.args.at c.args.bytes.now) (length c.args.bytes.now)) _ (is_err c.count.result) c.count.result is refl (omega (arith, c.count.ensures.later, ap (λ (v : DiskState). v.faults) c.put.ensures))

pub returns-clause-state : goal.returns-clause-state
returns-clause-state c =
    let is = c.count.ensures.state ∙ ap (λ (v : DiskState). counted v (is_err c.count.result)) c.put.ensures in
    is
