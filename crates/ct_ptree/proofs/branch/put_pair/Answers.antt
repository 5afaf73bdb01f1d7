use Rattle.std.proofs.Common.{ap, ◌∙◌}
use Rattle.ct_ptree.specs.Pairs.{with_pair}
use Rattle.ct_ptree.proofs.Levels.{rising_at, level_put}
use Rattle.ct_ptree.proofs.branch.put_pair.Goals as goal

pub put-requires-clause-rising : goal.put-requires-clause-rising
put-requires-clause-rising g c = rising_at c.roomy.new.leaves.items c.in_ok-at.at c.index_mut.result.now c.in_ok-at.ensures.within c.index_mut.ensures.value (rw c.roomy.ensures.same c.requires.rising)

pub returns-clause-ok : goal.returns-clause-ok
returns-clause-ok g c =
    level_put c.args.pair c.roomy.new.leaves.items c.in_ok-at.at c.index_mut.result.now c.put.new.self c.in_ok-at.ensures.within c.index_mut.ensures.value (rw c.sought.ensures at c.in_ok-at.ensures.low) (rw c.sought.ensures at c.in_ok-at.ensures.high) c.in_ok-put.ensures.ok
    ∙ ap (λ ys. with_pair ys c.args.pair) c.roomy.ensures.same
