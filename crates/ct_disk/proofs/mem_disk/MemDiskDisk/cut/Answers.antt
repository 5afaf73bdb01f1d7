use Rattle.std.proofs.Common.{◌∙◌, ap, refl, is_err, arith}
use Rattle.ct_disk.specs.Mem.{DiskState, counted, stepped}
use Rattle.ct_disk.specs.Steps.Step.{WasCut}
use Rattle.ct_disk.proofs.Passing.{on_ok, stepped-rises, stepped-room, cut-runs, cut-changes, counted-cause}
use Rattle.ct_disk.proofs.mem_disk.MemDiskDisk.cut.Goals as goal

pub returns-clause-cut : goal.returns-clause-cut
returns-clause-cut c =
    let is = c.count.ensures.state ∙ ap (λ (v : DiskState). counted v (is_err c.count.result)) c.shorten.ensures in
    on_ok c.count.result _ (cut-changes c.args.self.now _ (is_err c.count.result) c.args.area c.args.len 0 is)

pub returns-clause-rises : goal.returns-clause-rises
returns-clause-rises c =
    let is = c.count.ensures.state ∙ ap (λ (v : DiskState). counted v (is_err c.count.result)) c.shorten.ensures in
    stepped-rises c.args.self.now _ (is_err c.count.result) (WasCut c.args.area c.args.len) 0 is

pub returns-clause-images : goal.returns-clause-images
returns-clause-images c =
    let is = c.count.ensures.state ∙ ap (λ (v : DiskState). counted v (is_err c.count.result)) c.shorten.ensures in
    cut-runs c.args.self.now _ (is_err c.count.result) c.args.area c.args.len 0 is

pub returns-clause-room : goal.returns-clause-room
returns-clause-room c =
    let is = c.count.ensures.state ∙ ap (λ (v : DiskState). counted v (is_err c.count.result)) c.shorten.ensures in
    stepped-room c.args.self.now _ (is_err c.count.result) (WasCut c.args.area c.args.len) 0 is c.requires.room_calls (omega arith)

pub returns-clause-cause : goal.returns-clause-cause
returns-clause-cause c =
    let is = c.count.ensures.state ∙ ap (λ (v : DiskState). counted v (is_err c.count.result)) c.shorten.ensures in
    counted-cause (stepped c.args.self.now (WasCut c.args.area c.args.len) 0) _ (is_err c.count.result) c.count.result is refl (omega (arith, c.count.ensures.later, ap (λ (v : DiskState). v.faults) c.shorten.ensures))

pub returns-clause-state : goal.returns-clause-state
returns-clause-state c =
    let is = c.count.ensures.state ∙ ap (λ (v : DiskState). counted v (is_err c.count.result)) c.shorten.ensures in
    is
