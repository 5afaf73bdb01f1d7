use Rattle.ct_lexer.proofs.scan.quoted_len.Goals as goal
use Rattle.ct_lexer.proofs.Quotes.{opened_plain, opened_pair, closed, not_closed}

pub loop-byte-preserved-then-byte-ne39 : goal.loop-byte-preserved-then-byte-ne39
loop-byte-preserved-then-byte-ne39 c =
    opened_plain c.args.bytes.now c.loop-byte.rest.now c.in-Some.more.now c.loop-byte.len c.in-Some.byte c.loop-byte.invariant c.in-Some.ensures c.if-byte-ne39.true

pub loop-byte-preserved : goal.loop-byte-preserved
loop-byte-preserved c =
    opened_pair c.args.bytes.now c.loop-byte.rest.now c.in-Some.more.now c.in-Some-past_quote.behind.now c.loop-byte.len c.in-Some.byte
    c.loop-byte.invariant c.in-Some.ensures c.if-byte-ne39.false c.in-Some-past_quote.ensures

pub returns-in_default-past_quote : goal.returns-in_default-past_quote
returns-in_default-past_quote c =
    closed c.args.bytes.now c.loop-byte.rest.now c.in-Some.more.now c.loop-byte.len c.in-Some.byte
    c.loop-byte.invariant c.in-Some.ensures c.if-byte-ne39.false c.in_default-past_quote.ensures

pub returns : goal.returns
returns c = not_closed c.args.bytes.now c.loop-byte.rest.now c.loop-byte.len c.loop-byte.invariant c.in_default.ensures
