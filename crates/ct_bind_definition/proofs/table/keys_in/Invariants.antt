use Rattle.std.proofs.Common.{◌≡◌, ◌++◌, drop}
use Rattle.ct_bind_definition.specs.Definitions.{keys_in}
use Rattle.ct_bind_definition.proofs.table.keys_in.Given as goal

abbrev pub invariant-loop-column : goal.invariant-loop-column
invariant-loop-column l = l.made ++ keys_in (drop l.column-index l.columns) ≡ keys_in l.columns
