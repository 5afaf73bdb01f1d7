use Rattle.ct_model_laws.specs.Rows.{IsCreatedBy}
use Rattle.ct_model_laws.proofs.Creating.{created}
use Rattle.ct_model_laws.proofs.RowsMade.{each_of_changes}
use Rattle.ct_model_laws.proofs.rows.creations.Goals as goal

pub returns : goal.returns
returns c = each_of_changes (λ schema masks. IsCreatedBy) created
