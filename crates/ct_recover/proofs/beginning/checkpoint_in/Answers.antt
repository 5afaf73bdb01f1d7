use Rattle.ct_recover.proofs.Beginnings.{checkpoint_of_front}
use Rattle.ct_recover.proofs.beginning.checkpoint_in.Goals as goal

pub returns-in-Ok : goal.returns-in-Ok
returns-in-Ok c = checkpoint_of_front c.args.bytes.now c.args.size c.in-Ok.db c.if-bytes-size.false c.in-Ok.ensures.whole
