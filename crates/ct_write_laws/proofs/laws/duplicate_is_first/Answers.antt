use Rattle.ct_write_laws.proofs.Firsts.{first_is_answered, none_is_answered}
use Rattle.ct_write_laws.proofs.laws.duplicate_is_first.Goals as goal

pub returns : goal.returns
returns c = record { place = first_is_answered; none = none_is_answered }
