use Rattle.ct_machine.proofs.Plays.{whole_plays}
use Rattle.ct_machine.proofs.laws.one_whole_play.Goals as goal

pub returns : goal.returns
returns c = whole_plays
