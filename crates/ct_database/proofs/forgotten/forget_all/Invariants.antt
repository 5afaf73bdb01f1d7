use Rattle.std.proofs.Common.{◌≡◌, ℕ, ◌<◌, Some}
use Rattle.std.specs.List.{AllByRecursion}
use Rattle.ct_types.specs.declared.value.Key.{Key}
use Rattle.ct_types.specs.declared.entry.Kept.{Kept}
use Rattle.ct_ptree.specs.Pairs.{value_at}
use Rattle.ct_database.specs.Steps.{pointed}
use Rattle.ct_database.proofs.forgotten.forget_all.Given as goal

abbrev pub invariant-loop-one : goal.invariant-loop-one
invariant-loop-one l =
    (noted : ℕ) → AllByRecursion (λ (one : Kept). one.version < noted) (pointed l.commits) → (key : Key) → value_at l.initial.lasts key ≡ Some noted → value_at l.lasts key ≡ Some noted
