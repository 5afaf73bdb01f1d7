use Rattle.std.proofs.Common.{◌≡◌, ◌==◌, take, map, filter}
use Rattle.ct_model.proofs.changes.dated_changes.Given as goal

abbrev pub invariant-loop-change : goal.invariant-loop-change
invariant-loop-change l = l.made ≡ map (λ change. record { version = l.version; change = change }) (filter (λ change. change.table == l.table) (take l.change-index l.changes))
