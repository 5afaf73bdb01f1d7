use Rattle.std.proofs.lemmas.List.{take_rest}
use Rattle.ct_lexer.specs.Cutting.{IsCut}
use Rattle.ct_lexer.proofs.Cutting.{cut_none, past_gap, past_token, whole}
use Rattle.ct_lexer.proofs.Spans.{spans_rise, tokens_fit, tokens_stand}
use Rattle.ct_lexer.proofs.lexer.tokens.Goals as goal

pub loop-at-init : goal.loop-at-init
loop-at-init c = cut_none c.as_bytes-bytes.result.now _ c.in_ok-found.ensures

pub loop-at-preserved-in-Some : goal.loop-at-preserved-in-Some
loop-at-preserved-in-Some c =
    past_gap c.as_bytes-bytes.result.now _ c.loop-at.found c.loop-at.at c.in-Some.len c.loop-at.invariant (take_rest c.as_bytes-bytes.result.now c.loop-at.at) c.in-Some.ensures

pub loop-at-preserved : goal.loop-at-preserved
loop-at-preserved c =
    past_token c.as_bytes-bytes.result.now _ c.loop-at.found c.push.new.self c.loop-at.at c.in-Some-token_at.len c.in-Some-token_at.kind
    c.loop-at.invariant (take_rest c.as_bytes-bytes.result.now c.loop-at.at) c.in-Some-token_at.ensures c.in_ok-push.ensures.ok

cut : (c : goal.After-loop-at) → IsCut c.args.text.now c.loop-at.found
cut c = rw (← c.as_bytes-bytes.ensures.value) (whole c.as_bytes-bytes.result.now c.loop-at.found c.loop-at.at c.loop-at.invariant c.loop-at-test.false)

pub returns-clause-words : goal.returns-clause-words
returns-clause-words c = tokens_stand c.args.text.now c.loop-at.found (cut c)

pub returns-clause-rising : goal.returns-clause-rising
returns-clause-rising c = spans_rise c.args.text.now c.loop-at.found (cut c)

pub returns-clause-fitting : goal.returns-clause-fitting
returns-clause-fitting c = tokens_fit c.args.text.now c.loop-at.found (cut c)
