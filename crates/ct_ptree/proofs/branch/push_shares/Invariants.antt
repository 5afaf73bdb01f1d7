use Rattle.std.proofs.Common.{◌≡◌, ◌++◌, take}
use Rattle.ct_ptree.proofs.branch.push_shares.Given as goal

abbrev pub invariant-loop-leaf : goal.invariant-loop-leaf
invariant-loop-leaf g l = l.made.items ≡ l.initial.made.items ++ take l.leaf-index l.leaves
