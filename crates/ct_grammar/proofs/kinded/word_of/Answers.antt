use Rattle.ct_grammar.proofs.Spans.{to_boundary}
use Rattle.ct_grammar.proofs.kinded.word_of.Goals as goal

pub range-requires-clause-end_boundary : goal.range-requires-clause-end_boundary
range-requires-clause-end_boundary c = to_boundary c.args.text.now c.args.token c.utf8.text c.requires
