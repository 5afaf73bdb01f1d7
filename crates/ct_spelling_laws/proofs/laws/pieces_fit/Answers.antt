use Rattle.ct_spelling_laws.proofs.Pieces
use Rattle.ct_spelling_laws.proofs.laws.pieces_fit.Goals as goal

pub returns : goal.returns
returns c = Pieces.pieces_fit
