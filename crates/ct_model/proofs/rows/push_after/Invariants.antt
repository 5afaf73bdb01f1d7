use Rattle.std.proofs.Common.{◌≡◌, ◌++◌, take, filter}
use Rattle.std.specs.Ordering.{is_gt}
use Rattle.ct_types.specs.Order.{key_cmp}
use Rattle.ct_model.specs.Tables.{key_of}
use Rattle.ct_model.proofs.rows.push_after.Given as goal

abbrev pub invariant-loop-old : goal.invariant-loop-old
invariant-loop-old l = l.made ≡ l.initial.made ++ filter (λ old. is_gt (key_cmp (key_of l.schema old) l.key)) (take l.old-index l.rows)
