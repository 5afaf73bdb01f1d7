use Rattle.std.proofs.Common.{◌≡◌, ℕ, Some, take, if◌then◌else◌}
use Rattle.std.specs.List.{list_any}
use Rattle.ct_types.specs.declared.value.Key.{Key}
use Rattle.ct_ptree.specs.Pairs.{value_at}
use Rattle.ct_database.specs.Steps.{is_of, own_key}
use Rattle.ct_database.proofs.noted.note.Given as goal

abbrev pub invariant-loop-change : goal.invariant-loop-change
invariant-loop-change l =
    (table : ℕ) (key : Key) → value_at l.lasts (own_key table key) ≡ (if list_any (is_of table key) (take l.change-index l.changes) then Some l.version else value_at l.initial.lasts (own_key table key))
