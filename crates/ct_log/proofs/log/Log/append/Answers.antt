use Rattle.std.proofs.Common.{length}
use Rattle.ct_log.proofs.Appending.{images_first, images_second, appended}
use Rattle.ct_log.proofs.log.Log.append.Goals as goal

pub returns-in_err-write_synced-clause-images : goal.returns-in_err-write_synced-clause-images
returns-in_err-write_synced-clause-images g c = λ h payloads all.
    let a = c.args in
    images_first a.self.now.area payloads a.self.now.used (length a.body.now) a.body.now _ _ _ _ all (c.write_synced.ensures.images h)

pub returns-in_err-write_synced-2-clause-images : goal.returns-in_err-write_synced-2-clause-images
returns-in_err-write_synced-2-clause-images g c = λ h payloads all.
    let a = c.args in
    let D = g.D.Disk in
    let next = c.write_synced.ensures.honest.0 h in
    let now = all.log (D.content a.disk.now) (g.met.D.Disk.content_is_image a.disk.now h) in
    images_second a.self.now.area payloads a.self.now.used a.body.now (D.content a.disk.now) (D.content c.write_synced.new.disk) now c.requires.frame (c.in_ok-write_synced.ensures.written h)
    _ _ _ _ _ (D.images c.write_synced-2.new.disk) (c.write_synced.ensures.rises h) all
    (images_first a.self.now.area payloads a.self.now.used (length a.body.now) a.body.now _ _ _ (D.images c.write_synced.new.disk) all (c.write_synced.ensures.images h))
    (c.in_ok-write_synced.ensures.durable h) (c.write_synced-2.ensures.images next)

pub returns-clause-images : goal.returns-clause-images
returns-clause-images g c = λ h payloads all.
    let a = c.args in
    let D = g.D.Disk in
    let next = c.write_synced.ensures.honest.0 h in
    let now = all.log (D.content a.disk.now) (g.met.D.Disk.content_is_image a.disk.now h) in
    images_second a.self.now.area payloads a.self.now.used a.body.now (D.content a.disk.now) (D.content c.write_synced.new.disk) now c.requires.frame (c.in_ok-write_synced.ensures.written h)
    _ _ _ _ _ (D.images c.write_synced-2.new.disk) (c.write_synced.ensures.rises h) all
    (images_first a.self.now.area payloads a.self.now.used (length a.body.now) a.body.now _ _ _ (D.images c.write_synced.new.disk) all (c.write_synced.ensures.images h))
    (c.in_ok-write_synced.ensures.durable h) (c.write_synced-2.ensures.images next)

pub returns-clause-appended : goal.returns-clause-appended
returns-clause-appended g c = λ h payloads all.
    let a = c.args in
    let D = g.D.Disk in
    let next = c.write_synced.ensures.honest.0 h in
    let now = all.log (D.content a.disk.now) (g.met.D.Disk.content_is_image a.disk.now h) in
    appended a.self.now.area payloads a.self.now.used a.body.now (D.content a.disk.now) (D.content c.write_synced.new.disk) now c.requires.frame (c.in_ok-write_synced.ensures.written h)
    (D.content c.write_synced-2.new.disk) (c.in_ok-write_synced-2.ensures.written next)
