use Rattle.std.proofs.Common.{◌≡◌, ◌∙◌}
use Rattle.ct_rows.specs.Prunes.{pruned}
use Rattle.ct_rows.proofs.Pruned.{prune_step, prune_end, seen_alike}
use Rattle.ct_rows.proofs.rows.Rows.prune.Goals as goal

pub loop-pair-preserved : goal.loop-pair-preserved
loop-pair-preserved c = record {
  rising = c.loop-pair.invariant.rising;
  so_far = prune_step c.into_iter-pair-iterator.result c.loop-pair.pair-iterator c.next.new.self c.loop-pair.made c.prune_key.new.made c.in-Some.pair.now c.args.least c.loop-pair.invariant.rising c.loop-pair.invariant.so_far c.in-Some.ensures.steps c.in_ok-prune_key.ensures;
}

pub returns-clause-alike : goal.returns-clause-alike
returns-clause-alike c =
    let all : c.into_iter-pair-iterator.result ≡ c.args.self.now = c.into_iter-pair-iterator.ensures.into_iter_gives ∙ c.pairs-pair-items.ensures.all ∙ c.self.view_is in
    let done : c.loop-pair.made ≡ pruned c.into_iter-pair-iterator.result c.args.least = prune_end c.into_iter-pair-iterator.result c.loop-pair.pair-iterator c.loop-pair.made c.args.least c.loop-pair.invariant.so_far c.in-None.ensures.steps.0 in
    rw done (rw all (seen_alike c.args.self.now c.args.least (rw all at c.loop-pair.invariant.rising)))
