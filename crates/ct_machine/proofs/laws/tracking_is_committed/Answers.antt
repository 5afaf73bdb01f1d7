use Rattle.ct_machine.proofs.Committed.{sees_committed}
use Rattle.ct_machine.proofs.laws.tracking_is_committed.Goals as goal

pub returns : goal.returns
returns c = sees_committed
