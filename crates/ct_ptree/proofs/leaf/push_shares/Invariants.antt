use Rattle.std.proofs.Common.{◌≡◌, ◌++◌, take}
use Rattle.ct_ptree.proofs.leaf.push_shares.Given as goal

abbrev pub invariant-loop-pair : goal.invariant-loop-pair
invariant-loop-pair g l = l.made.items ≡ l.initial.made.items ++ take l.pair-index l.pairs
