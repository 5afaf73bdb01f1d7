use Rattle.std.proofs.Common.{◌∙◌, ap, refl, is_ok, is_err, arith}
use Rattle.ct_disk.specs.Mem.{DiskState, stepped}
use Rattle.ct_disk.specs.Steps.Step.{EndedSync}
use Rattle.ct_disk.proofs.Passing.{stepped-rises, stepped-room, sync-runs, sync-content, sync-leaves-ok, counted-cause}
use Rattle.ct_disk.proofs.mem_disk.MemDiskDisk.sync.Goals as goal

pub returns-clause-durable : goal.returns-clause-durable
returns-clause-durable c =
    let is = c.end_sync.ensures ∙ (λ i. stepped (c.count-outcome.ensures.state i) (EndedSync (c.is_ok.ensures.value i)) 0) in
    sync-leaves-ok c.args.self.now _ c.count-outcome.result 0 is

pub returns-clause-content : goal.returns-clause-content
returns-clause-content c =
    let is = c.end_sync.ensures ∙ (λ i. stepped (c.count-outcome.ensures.state i) (EndedSync (c.is_ok.ensures.value i)) 0) in
    sync-content c.args.self.now _ (is_err c.count-outcome.result) (is_ok c.count-outcome.result) 0 is

pub returns-clause-rises : goal.returns-clause-rises
returns-clause-rises c =
    let is = c.end_sync.ensures ∙ (λ i. stepped (c.count-outcome.ensures.state i) (EndedSync (c.is_ok.ensures.value i)) 0) in
    stepped-rises c.args.self.now _ (is_err c.count-outcome.result) (EndedSync (is_ok c.count-outcome.result)) 0 is

pub returns-clause-images : goal.returns-clause-images
returns-clause-images c =
    let is = c.end_sync.ensures ∙ (λ i. stepped (c.count-outcome.ensures.state i) (EndedSync (c.is_ok.ensures.value i)) 0) in
    sync-runs c.args.self.now _ (is_err c.count-outcome.result) (is_ok c.count-outcome.result) 0 is

pub returns-clause-room : goal.returns-clause-room
returns-clause-room c =
    let is = c.end_sync.ensures ∙ (λ i. stepped (c.count-outcome.ensures.state i) (EndedSync (c.is_ok.ensures.value i)) 0) in
    stepped-room c.args.self.now _ (is_err c.count-outcome.result) (EndedSync (is_ok c.count-outcome.result)) 0 is c.requires (omega arith)

pub returns-clause-cause : goal.returns-clause-cause
returns-clause-cause c =
    let is = c.end_sync.ensures ∙ (λ i. stepped (c.count-outcome.ensures.state i) (EndedSync (c.is_ok.ensures.value i)) 0) in
    counted-cause (stepped c.args.self.now (EndedSync (is_ok c.count-outcome.result)) 0) _ (is_err c.count-outcome.result) c.count-outcome.result is refl (omega (arith, c.count-outcome.ensures.later, ap (λ (v : DiskState). v.faults) c.end_sync.ensures))

pub returns-clause-state : goal.returns-clause-state
returns-clause-state c =
    let is = c.end_sync.ensures ∙ (λ i. stepped (c.count-outcome.ensures.state i) (EndedSync (c.is_ok.ensures.value i)) 0) in
    is
