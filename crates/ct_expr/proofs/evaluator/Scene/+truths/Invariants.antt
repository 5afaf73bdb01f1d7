use Rattle.ct_expr.specs.Meaning as spec
use Rattle.ct_expr.specs.Meaning.{scene}
use Rattle.ct_expr.proofs.Chains.{Goes}
use Rattle.ct_expr.proofs.evaluator.Scene.+truths.Given as goal

abbrev pub invariant-all-loop-operand : goal.invariant-all-loop-operand
invariant-all-loop-operand g l =
    let s = scene l.self.row.now l.self.env.now (g.L.Versions.row_of l.self.versions.now) in
    Goes spec.conjoined (spec.meaning s) l.operands l.operand-index l.made (spec.conjunction s l.operands)

abbrev pub invariant-any-loop-operand : goal.invariant-any-loop-operand
invariant-any-loop-operand g l =
    let s = scene l.self.row.now l.self.env.now (g.L.Versions.row_of l.self.versions.now) in
    Goes spec.disjoined (spec.meaning s) l.operands l.operand-index l.made (spec.disjunction s l.operands)
