use Rattle.ct_codec.proofs.Combined.{law_begins_no_other}
use Rattle.ct_codec.proofs.PieceLaws.{law_piece}
use Rattle.ct_codec.proofs.law.piece_begins_no_other.Goals as goal

pub returns : goal.returns
returns c = law_begins_no_other law_piece
