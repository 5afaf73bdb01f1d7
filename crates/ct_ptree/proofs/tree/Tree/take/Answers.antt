use Rattle.ct_ptree.specs.Pairs.{content, without}
use Rattle.ct_ptree.proofs.Rising.{changed_ascends, without_ascends}
use Rattle.ct_ptree.proofs.tree.Tree.take.Goals as goal

pub invariant_of-self : goal.invariant_of-self
invariant_of-self g c =
    let old = content c.self.inside.root in
    let key = c.of.result in
    (changed_ascends c.root_take.result old (without old key) (content c.root_take.new.root) c.self.invariant.0 (without_ascends old key c.self.invariant.0) c.root_take.ensures.ok c.root_take.ensures.err, c.root_take.ensures.filled)
