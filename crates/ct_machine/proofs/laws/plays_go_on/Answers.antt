use Rattle.ct_machine.proofs.Plays.{IsPlay-push, end_of-push}
use Rattle.ct_machine.proofs.laws.plays_go_on.Goals as goal

pub returns : goal.returns
returns c = λ m journal one play next. (IsPlay-push m journal one play next, end_of-push m journal one)
