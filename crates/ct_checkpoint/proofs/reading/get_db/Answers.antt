use Rattle.std.proofs.Common.{Err, ap}
use Rattle.ct_checkpoint.proofs.Stepping.{no_stop_in_checkpoint}
use Rattle.ct_checkpoint.proofs.reading.get_db.Goals as goal

pub returns-in-Err-Stopped-clause-canonical : goal.returns-in-Err-Stopped-clause-canonical
returns-in-Err-Stopped-clause-canonical c = λ was db is.
    no_stop_in_checkpoint c.args.bytes.now c.in-Err-Stopped.field-0-0 db is (c.in-Err-Stopped.ensures.stopped c.in-Err-Stopped.field-0-0 (ap Err c.in-Err-Stopped.field-0-is))
