use Rattle.std.proofs.Common.{◌≡◌, drop}
use Rattle.ct_bind_names.specs.Catalogue.{variable_from}
use Rattle.ct_bind_names.proofs.catalogue.find_variable.Given as goal

abbrev pub invariant-loop-variable : goal.invariant-loop-variable
invariant-loop-variable l = variable_from l.name 0 l.variables ≡ variable_from l.name l.at (drop l.variable-index l.variables)
