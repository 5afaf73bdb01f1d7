use Rattle.std.proofs.Common.{◌≡◌, ◌++◌, take}
use Rattle.ct_ptree.proofs.root.push_shares.Given as goal

abbrev pub invariant-loop-branch : goal.invariant-loop-branch
invariant-loop-branch g l = l.made.items ≡ l.initial.made.items ++ take l.branch-index l.branches
