use Rattle.ct_sessions.proofs.Standing.{holds_alike}
use Rattle.ct_sessions.proofs.laws.holds_for_alike.Goals as goal

pub returns : goal.returns
returns c = holds_alike
