use Rattle.ct_grammar.proofs.TableTexts.{one_or_none, one_answer}
use Rattle.ct_grammar.proofs.law.one_name.Goals as goal

pub returns : goal.returns
returns c = record { some = one_or_none; one = one_answer }
