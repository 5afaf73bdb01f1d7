use Rattle.std.proofs.Common.{◌≡◌, ℕ, ◌||◌, take}
use Rattle.std.specs.List.{list_any}
use Rattle.ct_types.specs.declared.value.Key.{Key}
use Rattle.ct_locks.specs.Holdings.{has_key, is_on}
use Rattle.ct_locks.proofs.key_sets.with_keys.Given as goal

abbrev pub invariant-loop-taken : goal.invariant-loop-taken
invariant-loop-taken l = (table : ℕ) (key : Key) → has_key l.made.items table key ≡ (has_key l.sets table key || list_any (is_on table key) (take l.taken-index l.added))
