use Rattle.std.proofs.Common.{◌≡◌, ◌++◌, take, filter}
use Rattle.std.specs.Ordering.{is_gt}
use Rattle.ct_types.specs.Order.{key_cmp}
use Rattle.ct_model.proofs.changes.push_keys_after.Given as goal

abbrev pub invariant-loop-old : goal.invariant-loop-old
invariant-loop-old l = l.made ≡ l.initial.made ++ filter (λ k. is_gt (key_cmp k l.key)) (take l.old-index l.keys)
