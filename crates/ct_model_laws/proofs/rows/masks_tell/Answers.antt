use Rattle.ct_model_laws.specs.Rows.{IsMaskedBy}
use Rattle.ct_model_laws.proofs.Masking.{masked}
use Rattle.ct_model_laws.proofs.RowsMade.{each_of_changes}
use Rattle.ct_model_laws.proofs.rows.masks_tell.Goals as goal

pub returns : goal.returns
returns c = each_of_changes IsMaskedBy masked
