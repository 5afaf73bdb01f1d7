use Rattle.std.proofs.Common.{◌≡◌, ◌-◌, take}
use Rattle.std.specs.List.{slice_get, filter_map}
use Rattle.ct_model.proofs.rows.key_values.Given as goal

abbrev pub invariant-loop-id : goal.invariant-loop-id
invariant-loop-id l = l.values ≡ filter_map (λ id. slice_get l.row (id - 1)) (take l.id-index l.ids)
