use Rattle.std.proofs.Common.{◌≡◌, take, Ok}
use Rattle.ct_expr.specs.Meaning.{value}
use Rattle.ct_types.specs.Answers.{each}
use Rattle.ct_write.proofs.values.set_values.Given as goal

abbrev pub invariant-loop-set : goal.invariant-loop-set
invariant-loop-set g l = each (λ set. value (record { row = l.row; env = l.env; versions = g.L.Versions.row_of l.versions }) set.value) (take l.set-index l.sets) ≡ Ok l.values
