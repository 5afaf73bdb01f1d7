use Rattle.ct_model_laws.proofs.Versioning.{versions_tell}
use Rattle.ct_model_laws.proofs.rows.versions_tell.Goals as goal

pub returns : goal.returns
returns c = versions_tell
