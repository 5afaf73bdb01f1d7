use Rattle.std.proofs.Common.{◌≡◌, take, fold}
use Rattle.ct_model.specs.Apply.{raised}
use Rattle.ct_database.proofs.acts.raise_each.Given as goal

abbrev pub invariant-loop-listed : goal.invariant-loop-listed
invariant-loop-listed l = l.table ≡ fold (λ before listed. raised listed before) l.initial.table (take l.listed-index l.minima)
