use Rattle.std.proofs.Common.{◌≡◌, ◌∷◌, pos, take}
use Rattle.ct_types.specs.declared.value.Value.TheVariants.{Int}
use Rattle.ct_database.proofs.noted.own_key.Given as goal

abbrev pub invariant-loop-value : goal.invariant-loop-value
invariant-loop-value l = l.values ≡ Int (pos l.table) ∷ take l.value-index l.value-items
