use Rattle.std.proofs.Common.{◌≡◌, ◌++◌, replicate}
use Rattle.ct_types.specs.declared.value.Value.TheVariants.{Null}
use Rattle.ct_query.proofs.joins.push_nulls.Given as goal

abbrev pub invariant-loop : goal.invariant-loop
invariant-loop l = l.values ≡ l.initial.values ++ replicate l.counter Null
