use Rattle.ct_ptree.specs.Pairs.{content, with_pair}
use Rattle.ct_ptree.proofs.Rising.{changed_ascends, with_ascends}
use Rattle.ct_ptree.proofs.tree.Tree.put.Goals as goal

pub invariant_of-self : goal.invariant_of-self
invariant_of-self g c =
    let old = content c.self.inside.root in
    let pair = c.of.result in
    (changed_ascends c.root_put.result old (with_pair old pair) (content c.root_put.new.root) c.self.invariant.0 (with_ascends old pair c.self.invariant.0) c.root_put.ensures.ok c.root_put.ensures.err, c.root_put.ensures.filled)
