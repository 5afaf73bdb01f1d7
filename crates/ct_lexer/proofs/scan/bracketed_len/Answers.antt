use Rattle.std.proofs.Common.{◌∙◌, sym, arith}
use Rattle.ct_lexer.proofs.scan.bracketed_len.Goals as goal
use Rattle.ct_lexer.proofs.Names.{bracket_front}

pub returns-else-first-eq91 : goal.returns-else-first-eq91
returns-else-first-eq91 c word more e name =
    let f = bracket_front c.in_ok-first.first c.in_ok-first.more.now word more (sym c.in_ok-first.ensures ∙ e) name in
    let g = c.split_at.ensures.back in
    let closes = rw (← c.run-inside.ensures.run, ← g) at f.closes in
    grind arith
