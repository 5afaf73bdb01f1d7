use Rattle.ct_refusal_laws.proofs.Evaluation.{values_refuse_overflow, truths_refuse_overflow}
use Rattle.ct_refusal_laws.proofs.laws.evaluation_refuses_overflow.Goals as goal

pub returns : goal.returns
returns c = record { values = values_refuse_overflow; truths = truths_refuse_overflow }
