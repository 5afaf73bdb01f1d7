use Rattle.ct_parser.proofs.Exactness.{sentence_exact}
use Rattle.ct_parser.proofs.law.reads_exactly.Goals as goal

pub returns : goal.returns
returns c = sentence_exact
