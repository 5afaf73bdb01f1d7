use Rattle.std.proofs.Common.{set, ap, ◌∙◌, arith}
use Rattle.ct_ptree.specs.Pairs.{joined}
use Rattle.ct_ptree.proofs.Levels.{filled_at, level_merged}
use Rattle.ct_ptree.proofs.branch.merge.Goals as goal

pub merged-requires : goal.merged-requires
merged-requires g c = filled_at c.args.leaves.now.items c.args.at c.index.result.now c.requires.within c.index.ensures c.requires.filled

pub returns-in-Ok-Some-clause-same : goal.returns-in-Ok-Some-clause-same
returns-in-Ok-Some-clause-same g c =
    ap (λ ys. joined (set ys c.args.at c.in-Ok-Some.leaf)) c.remove.ensures.items
    ∙ level_merged c.args.leaves.now.items c.args.at c.index.result.now c.index-2.result.now c.in-Ok-Some.leaf (omega arith) c.index.ensures c.index-2.ensures (rw c.in-Ok-Some.field-0-is at c.in-Ok-Some.ensures)
