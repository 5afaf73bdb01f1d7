use Rattle.ct_refusal_laws.proofs.Answers.{answers_refuse_overflow}
use Rattle.ct_refusal_laws.proofs.laws.answers_refuse_overflow.Goals as goal

pub returns : goal.returns
returns c = answers_refuse_overflow
