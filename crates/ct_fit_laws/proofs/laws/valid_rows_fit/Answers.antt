use Rattle.ct_fit_laws.proofs.Rows
use Rattle.ct_fit_laws.proofs.laws.valid_rows_fit.Goals as goal

pub returns : goal.returns
returns c = Rows.valid_rows_fit
