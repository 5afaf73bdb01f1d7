use Rattle.std.proofs.Common.{◌∙◌}
use Rattle.ct_ptree.proofs.Levels.{rising_at, level_take, others_filled}
use Rattle.ct_ptree.proofs.root.take_pair.Goals as goal

pub take-requires-clause-rising : goal.take-requires-clause-rising
take-requires-clause-rising g c = rising_at c.args.branches.now.items c.place-at.result c.index_mut.result.now (rw c.as_slice.ensures.value at c.place-at.ensures.within) c.index_mut.ensures.value c.requires.rising

pub tidy-requires-clause-others : goal.tidy-requires-clause-others
tidy-requires-clause-others g c = others_filled c.args.branches.now.items c.place-at.result c.take.new.self (rw c.as_slice.ensures.value at c.place-at.ensures.within) c.requires.filled

pub returns-clause-ok : goal.returns-clause-ok
returns-clause-ok g c =
    c.tidy.ensures.same
    ∙ level_take c.args.key.now c.args.branches.now.items c.place-at.result c.index_mut.result.now c.take.new.self (rw c.as_slice.ensures.value at c.place-at.ensures.within) c.index_mut.ensures.value (rw c.as_slice.ensures.value at c.place-at.ensures.low) (rw c.as_slice.ensures.value at c.place-at.ensures.high) c.in_ok-take.ensures.ok
