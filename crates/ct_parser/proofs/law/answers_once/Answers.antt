use Rattle.ct_parser.proofs.OneAnswer.{answers_once}
use Rattle.ct_parser.proofs.law.answers_once.Goals as goal

pub returns : goal.returns
returns c = answers_once
