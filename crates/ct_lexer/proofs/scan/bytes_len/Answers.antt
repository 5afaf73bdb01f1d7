use Rattle.std.proofs.Common.{◌∙◌, sym, ap, ◌∷◌, arith}
use Rattle.ct_lexer.proofs.scan.bytes_len.Goals as goal
use Rattle.ct_lexer.proofs.Marks.{bytes_front, bytes_begins}

pub returns-then-digits-eq0 : goal.returns-then-digits-eq0
returns-then-digits-eq0 c =
    rw c.run-digits.ensures.run
    (bytes_begins c.args.bytes.now c.in_ok-zero.marked.now c.in_ok-mark.more.now c.in_ok-zero.zero c.in_ok-mark.mark c.in_ok-zero.ensures c.in_ok-mark.ensures c.if-zero-eq48.true (cc)
    (rw c.run-digits.ensures.run at c.if-digits-eq0.true))

pub returns-else-zero-eq48 : goal.returns-else-zero-eq48
returns-else-zero-eq48 c word more e bytes =
    let front = sym (c.in_ok-zero.ensures ∙ ap (λ z. c.in_ok-zero.zero ∷ z) c.in_ok-mark.ensures) ∙ e in
    let f = bytes_front c.in_ok-zero.zero c.in_ok-mark.mark c.in_ok-mark.more.now word more front bytes in
    let even = rw (← c.run-digits.ensures.run) at f.even in
    grind arith
