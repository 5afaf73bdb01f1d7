use Rattle.std.proofs.Common.{Err, sym, subst}
use Rattle.ct_lexer.specs.Cutting.{IsCut}
use Rattle.ct_parser.specs.Exact.{Parsed}
use Rattle.ct_run.proofs.command.command_of.Goals as goal

pub returns-clause-means : goal.returns-clause-means
returns-clause-means c =
    let tokens = c.as_slice.result.now in
    let cut = subst (λ text. IsCut text tokens) c.as_str.ensures.value (subst (IsCut c.as_str.result.now) (sym c.as_slice.ensures) c.in-Ok.ensures.cut) in
    let parsed = subst (λ text. Parsed text tokens (Err c.in-Err.refusal)) c.as_str-in-Ok.ensures.value c.in-Err.ensures in
    c.refused.ensures c.args.text.now (tokens, cut, parsed)
