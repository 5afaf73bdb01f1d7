use Rattle.std.proofs.Common.{map, drop}
use Rattle.ct_types.specs.Answers.{each, onto}
use Rattle.ct_bind_expr.specs.Among.{among}
use Rattle.ct_bind_expr.specs.Versions.{operand, values}
use Rattle.ct_bind_expr.specs.Walk.{walk, term_walk, further_term}
use Rattle.ct_bind_expr.proofs.Turns.{Goes, Fills}
use Rattle.ct_bind_expr.proofs.walk.Binder.+walk.Given as goal

abbrev pub invariant-operands-loop-at : goal.invariant-operands-loop-at
invariant-operands-loop-at l =
    Goes (operand l.wanted l.place) (among l.self walk) l.all l.at l.made (onto l.fn.before (each (operand l.wanted l.place) (map (among l.self walk) (drop 2 l.all))))

abbrev pub invariant-terms-loop-at : goal.invariant-terms-loop-at
invariant-terms-loop-at l =
    Goes (further_term l.place) (among l.self term_walk) l.all l.at l.made (onto l.fn.before (each (further_term l.place) (map (among l.self term_walk) (drop 1 l.all))))

abbrev pub invariant-values-loop-e : goal.invariant-values-loop-e
invariant-values-loop-e l =
    Fills l.place (among l.self walk) l.left l.all l.e-index l.made (values l.place l.kinds (map (among l.self walk) l.all))
