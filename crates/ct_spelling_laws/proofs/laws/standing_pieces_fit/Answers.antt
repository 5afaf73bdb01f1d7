use Rattle.ct_spelling_laws.proofs.Standing
use Rattle.ct_spelling_laws.proofs.laws.standing_pieces_fit.Goals as goal

pub returns : goal.returns
returns c = Standing.standing_pieces_fit
