use Rattle.ct_grammar.proofs.Spans.{second_boundary}
use Rattle.ct_grammar.proofs.words.inner.Goals as goal

pub range-requires-clause-start_boundary : goal.range-requires-clause-start_boundary
range-requires-clause-start_boundary c _ = second_boundary c.args.word.now c.utf8.word c.requires
