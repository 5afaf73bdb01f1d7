use Rattle.std.proofs.Common.{ap, sym, is_err}
use Rattle.ct_disk.proofs.Passing.{counted-content, counted-runs, counted-room, counted-cause}
use Rattle.ct_disk.proofs.mem_disk.MemDiskDisk.read_at.Goals as goal

pub returns-in-Ok-clause-content : goal.returns-in-Ok-clause-content
returns-in-Ok-clause-content c = counted-content c.args.self.now _ (is_err c.count.result) c.count.ensures.state

pub returns-in-Ok-clause-images : goal.returns-in-Ok-clause-images
returns-in-Ok-clause-images c = counted-runs c.args.self.now _ (is_err c.count.result) c.count.ensures.state

pub returns-in-Ok-clause-room : goal.returns-in-Ok-clause-room
returns-in-Ok-clause-room c = counted-room c.args.self.now _ (is_err c.count.result) c.count.ensures.state

pub returns-in-Err-clause-content : goal.returns-in-Err-clause-content
returns-in-Err-clause-content c = counted-content c.args.self.now _ (is_err c.count.result) c.count.ensures.state

pub returns-in-Err-clause-images : goal.returns-in-Err-clause-images
returns-in-Err-clause-images c = counted-runs c.args.self.now _ (is_err c.count.result) c.count.ensures.state

pub returns-in-Err-clause-room : goal.returns-in-Err-clause-room
returns-in-Err-clause-room c = counted-room c.args.self.now _ (is_err c.count.result) c.count.ensures.state

pub returns-in-Err-clause-cause : goal.returns-in-Err-clause-cause
returns-in-Err-clause-cause c = counted-cause c.args.self.now _ (is_err c.count.result) _ c.count.ensures.state (sym (ap is_err c.in-Err.is)) c.count.ensures.later

pub returns-in-Ok-clause-cause : goal.returns-in-Ok-clause-cause
returns-in-Ok-clause-cause c = counted-cause c.args.self.now _ (is_err c.count.result) _ c.count.ensures.state (sym (ap is_err c.in-Ok.is)) c.count.ensures.later
