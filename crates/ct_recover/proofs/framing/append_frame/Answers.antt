use Rattle.std.proofs.Common.{subst}
use Rattle.ct_faults.specs.Disk.{Image, Changes}
use Rattle.ct_log.specs.Append.{IsAppended}
use Rattle.ct_recover.proofs.Appending.{append_after, logs_stay}
use Rattle.ct_recover.proofs.framing.append_frame.Goals as goal

pub returns-in_err-append-clause-images : goal.returns-in_err-append-clause-images
returns-in_err-append-clause-images g c = λ h payloads all.
    let a = c.args in
    let D = g.D.Disk in
    let next = c.ready.ensures.honest.0 h in
    append_after (D.clock a.disk.now) (D.clock c.ready.new.self) (D.clock c.append.new.disk) a.log.now.area a.log.now.used payloads a.body.now (D.images a.disk.now) (D.images c.ready.new.self) (D.images c.append.new.disk)
    (c.ready.ensures.images h) all (λ there. c.append.ensures.images next payloads there)

pub returns-clause-images : goal.returns-clause-images
returns-clause-images g c = λ h payloads all.
    let a = c.args in
    let D = g.D.Disk in
    let next = c.ready.ensures.honest.0 h in
    append_after (D.clock a.disk.now) (D.clock c.ready.new.self) (D.clock c.append.new.disk) a.log.now.area a.log.now.used payloads a.body.now (D.images a.disk.now) (D.images c.ready.new.self) (D.images c.append.new.disk)
    (c.ready.ensures.images h) all (λ there. c.append.ensures.images next payloads there)

pub returns-clause-appended : goal.returns-clause-appended
returns-clause-appended g c = λ h payloads all.
    let a = c.args in
    let D = g.D.Disk in
    let next = c.ready.ensures.honest.0 h in
    let there = logs_stay (D.clock a.disk.now) (D.clock c.ready.new.self) a.log.now.area a.log.now.used payloads (D.images a.disk.now) (D.images c.ready.new.self) (c.ready.ensures.images h) all in
    subst (λ (i : Image). Changes a.log.now.area (IsAppended payloads a.log.now.used a.body.now) i (D.content c.append.new.disk)) (c.ready.ensures.content h) (c.in_ok-append.ensures.appended next payloads there)
