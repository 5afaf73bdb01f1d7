use Rattle.std.proofs.Common.{◌≡◌, suc, sym, ◌∙◌, arith, take-append-drop}
use Rattle.ct_ptree.proofs.Gaps.{taken_between}
use Rattle.ct_ptree.proofs.leaf.take_pair.Goals as goal

pub returns-then-low-high : goal.returns-then-low-high
returns-then-low-high g c =
    let next : c.gap-low.result.1 ≡ suc c.gap-low.result.0 = omega arith in
    c.remove.ensures.items
    ∙ taken_between c.args.key.now c.args.pairs.now.items c.gap-low.result.0 (suc c.gap-low.result.0) (rw c.as_slice.ensures.value at c.gap-low.ensures.low) (rw (next, c.as_slice.ensures.value) at c.gap-low.ensures.high)

pub returns-else-low-high : goal.returns-else-low-high
returns-else-low-high g c =
    let same : c.gap-low.result.1 ≡ c.gap-low.result.0 = omega arith in
    sym (take-append-drop c.gap-low.result.0 c.args.pairs.now.items)
    ∙ taken_between c.args.key.now c.args.pairs.now.items c.gap-low.result.0 c.gap-low.result.0 (rw c.as_slice.ensures.value at c.gap-low.ensures.low) (rw (same, c.as_slice.ensures.value) at c.gap-low.ensures.high)
