use Rattle.ct_parser.proofs.Exactness.{answered}
use Rattle.ct_parser.proofs.statement.parse.Goals as goal

pub returns : goal.returns
returns c = rw c.answer.ensures (answered _ _ _ c.reading-read.ensures)
