use Rattle.ct_bind_place_laws.proofs.Walked.{expressions_have_causes}
use Rattle.ct_bind_place_laws.proofs.laws.expressions_have_causes.Goals as goal

pub returns : goal.returns
returns c = expressions_have_causes
