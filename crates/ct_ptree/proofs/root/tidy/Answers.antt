use Rattle.std.proofs.Common.{◌≡◌, ◌<◌, length, ap, ◌∙◌, arith}
use Rattle.std.proofs.lemmas.Bool.Decides.{nat_tests}
use Rattle.ct_ptree.specs.Pairs.{joined}
use Rattle.ct_ptree.proofs.Levels.{level_removed, around_filled}
use Rattle.ct_ptree.proofs.root.tidy.Goals as goal

pub returns-then-is_empty-clause-same : goal.returns-then-is_empty-clause-same
returns-then-is_empty-clause-same g c =
    let none : length c.index.result.now ≡ 0 = grind (arith, nat_tests, c.is_empty.ensures, c.if-is_empty.true) in
    ap joined c.remove.ensures.items ∙ level_removed c.args.branches.now.items c.args.at c.index.result.now c.requires.within c.index.ensures none

pub merge-requires-clause-filled : goal.merge-requires-clause-filled
merge-requires-clause-filled g c =
    let some : 0 < length c.index.result.now = grind (arith, nat_tests, c.is_empty.ensures, c.if-is_empty.false) in
    around_filled c.args.branches.now.items c.args.at c.index.result.now c.requires.within c.index.ensures c.requires.others some
