use Rattle.std.proofs.Common.{true, false, sym, ◌∙◌}
use Rattle.ct_grammar.proofs.Lengths.{as_word, as_sign, as_number}
use Rattle.ct_grammar.proofs.kind.kind_of.Goals as goal

pub returns-in-Name : goal.returns-in-Name
returns-in-Name c = as_word c.args.form _ c.args.word.now _ c.in-Name.is c.words_of.ensures c.kind_in.ensures

pub returns-in-Number : goal.returns-in-Number
returns-in-Number c = as_number c.args.form c.args.word.now true c.in-Number.is (sym c.spells.ensures ∙ c.if-spells.true)

pub returns-in-Number-2 : goal.returns-in-Number-2
returns-in-Number-2 c = as_number c.args.form c.args.word.now false c.in-Number-2.is (sym c.spells.ensures ∙ c.if-spells.false)

pub returns-in-Sign : goal.returns-in-Sign
returns-in-Sign c = as_sign c.args.form _ c.args.word.now _ c.in-Sign.is c.signs_of.ensures c.kind_in-in-Sign.ensures
