use Rattle.std.proofs.Common.{◌≡◌, ap, arith}
use Rattle.ct_parse_expr.specs.ReadExpr.{expr}
use Rattle.ct_grammar.proofs.Turns.{level_left}
use Rattle.ct_parse_expr.proofs.operators.+expr.Goals as goal

pub returns-then-depth-eq0 : goal.returns-then-depth-eq0
unfolding expr
returns-then-depth-eq0 t c _ = let none : c.args.depth ≡ 0 = omega arith in ap (λ n. expr n c.args.entry c.args.tokens.now) none

pub returns : goal.returns
unfolding expr
returns t c = rw (level_left (λ n. expr n c.args.entry c.args.tokens.now) c.args.depth (omega arith)) c.level.ensures
