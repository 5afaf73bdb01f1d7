use Rattle.std.proofs.Common.{[], map}
use Rattle.ct_expr.specs.Meaning as spec
use Rattle.ct_expr.specs.Meaning.{scene}
use Rattle.ct_expr.proofs.Chains.{Goes}
use Rattle.ct_expr.proofs.evaluator.Scene.+values.Given as goal

abbrev pub invariant-product-loop-factor : goal.invariant-product-loop-factor
invariant-product-loop-factor g l =
    let s = scene l.self.row.now l.self.env.now (g.L.Versions.row_of l.self.versions.now) in
    Goes spec.multiplied (spec.meaning s) l.factors l.factor-index l.made (spec.product s l.factors)

abbrev pub invariant-sum-loop-term : goal.invariant-sum-loop-term
invariant-sum-loop-term g l =
    let s = scene l.self.row.now l.self.env.now (g.L.Versions.row_of l.self.versions.now) in
    Goes spec.added (spec.operand s) l.more l.term-index l.made (spec.sum s l.fn.first l.more)

abbrev pub invariant-key-loop-part : goal.invariant-key-loop-part
invariant-key-loop-part g l =
    let s = scene l.self.row.now l.self.env.now (g.L.Versions.row_of l.self.versions.now) in
    Goes spec.listed (spec.meaning s) l.parts l.part-index l.values (spec.chain spec.listed [] (map (spec.meaning s) l.parts))
