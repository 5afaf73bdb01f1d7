use Rattle.std.proofs.Common.{◌+◌, [], get_or, set, ap, ◌∙◌}
use Rattle.std.proofs.lemmas.List.{get_or_default}
use Rattle.ct_ptree.specs.Pairs.{joined}
use Rattle.ct_ptree.proofs.Levels.{level_halved}
use Rattle.ct_ptree.proofs.branch.replace.Goals as goal

pub returns-clause-same : goal.returns-clause-same
returns-clause-same g c =
    let xss = c.args.leaves.now.items in
    let x = get_or xss c.args.at [] in
    ap (λ ys. joined (set ys (c.args.at + 1) c.args.halves.1)) c.in_ok-insert.ensures.items
    ∙ level_halved xss c.args.at x c.args.halves.0 c.args.halves.1 c.requires.within (get_or_default xss c.args.at [] x c.requires.within) c.requires.same
