use Rattle.std.proofs.Common.{◌∙◌, sym, ap, ◌+◌, ◌*◌, ◌++◌, drop, append-nil, rules, arith}
use Rattle.std.proofs.lemmas.Grind.{common_steps}
use Rattle.ct_grammar.specs.Words.{hex_pairs}
use Rattle.ct_grammar.proofs.Pairs.{next_pair, no_pair}
use Rattle.ct_grammar.proofs.words.bytes_in.Goals as goal

pub loop-at-preserved : goal.loop-at-preserved
loop-at-preserved c =
    let pair = next_pair c.as_bytes-digits.result.now (2 * c.loop-at.at + 2) (2 * c.loop-at.at + 3) (2 * (c.loop-at.at + 1) + 2) (omega arith) (omega arith) (omega (arith, c.loop-at-test.true, c.saturating_sub-pairs.ensures)) in
    first_of (search (rules, pair), grind (arith, common_steps, pair))

pub returns : goal.returns
returns c =
    let none = no_pair c.as_bytes-digits.result.now (2 * c.loop-at.at + 2) (omega (arith, c.loop-at-test.false, c.saturating_sub-pairs.ensures)) in
    c.from_vec.ensures ∙ sym (append-nil _) ∙ ap (λ z. c.loop-at.bytes.items ++ z) (sym none) ∙ c.loop-at.invariant ∙ ap (λ z. hex_pairs (drop 2 z)) c.as_bytes-digits.ensures.value
