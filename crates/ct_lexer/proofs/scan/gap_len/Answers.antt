use Rattle.ct_lexer.proofs.scan.gap_len.Goals as goal
use Rattle.ct_lexer.proofs.Marks.{blank_begins, comment_begins}

pub returns-then-has : goal.returns-then-has
returns-then-has c = blank_begins c.args.bytes.now c.in_ok-first.more.now c.in_ok-first.first c.in_ok-first.ensures (cc)

pub returns-then-begins_comment : goal.returns-then-begins_comment
returns-then-begins_comment c =
    rw c.run.ensures.run (comment_begins c.args.bytes.now c.in_ok-first.more.now c.in_ok-first.first c.in_ok-first.ensures (cc))
