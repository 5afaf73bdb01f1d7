use Rattle.ct_model_laws.proofs.Deleting.{deleted_have_no_row}
use Rattle.ct_model_laws.proofs.deletes.deleted_have_no_row.Goals as goal

pub returns : goal.returns
returns c = deleted_have_no_row
