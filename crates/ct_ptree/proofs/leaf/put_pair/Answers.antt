use Rattle.std.proofs.Common.{◌≡◌, ◌+◌, arith}
use Rattle.ct_ptree.proofs.Gaps.{put_there}
use Rattle.ct_ptree.proofs.leaf.put_pair.Goals as goal

pub returns-then-low-high-clause-ok : goal.returns-then-low-high-clause-ok
returns-then-low-high-clause-ok g c =
    let next : c.gap-low.result.1 ≡ c.gap-low.result.0 + 1 = omega arith in
    put_there c.args.pairs.now.items c.gap-low.result.0 c.args.pair (omega arith) (rw (c.as_slice.ensures.value, c.sought.ensures) at c.gap-low.ensures.low) (rw (next, c.as_slice.ensures.value, c.sought.ensures) at c.gap-low.ensures.high)
