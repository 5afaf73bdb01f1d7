use Rattle.ct_lexer.proofs.Totality.{cut_or_stuck}
use Rattle.ct_lexer.proofs.Cutting.{one_tokens, cut_or_stuck as no_both, one_place}
use Rattle.ct_lexer.proofs.law.one_cutting.Goals as goal

pub returns : goal.returns
returns c = record { some = cut_or_stuck; tokens = one_tokens; apart = no_both; place = one_place }
