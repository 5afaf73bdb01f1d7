use Rattle.ct_codec.proofs.PieceLaws.{law_piece}
use Rattle.ct_codec.proofs.law.piece_is_exact.Goals as goal

pub returns : goal.returns
returns c = law_piece
