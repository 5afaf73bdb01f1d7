use Rattle.ct_parse_expr.proofs.operators.+expr.Given as goal

abbrev pub decreases-expr : goal.decreases-expr
decreases-expr l = l.depth
