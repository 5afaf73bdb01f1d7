use Rattle.ct_bind_place_laws.proofs.Statements.{statements_have_causes}
use Rattle.ct_bind_place_laws.proofs.laws.statements_have_causes.Goals as goal

pub returns : goal.returns
returns c = statements_have_causes
