use Rattle.std.proofs.Common.{◌≡◌, take, filter}
use Rattle.std.specs.Ordering.{is_lt}
use Rattle.ct_types.specs.Order.{key_cmp}
use Rattle.ct_model.proofs.changes.keys_before.Given as goal

abbrev pub invariant-loop-old : goal.invariant-loop-old
invariant-loop-old l = l.made ≡ filter (λ k. is_lt (key_cmp k l.key)) (take l.old-index l.keys)
