use Rattle.std.proofs.Common.{◌≡◌, ◌++◌, map, filter, drop}
use Rattle.ct_bind_definition.specs.Definitions.{says_key}
use Rattle.ct_bind_definition.proofs.table.push_own_keys.Given as goal

abbrev pub invariant-loop-column : goal.invariant-loop-column
invariant-loop-column l = l.made ++ map (λ column. column.name) (filter says_key (drop l.column-index l.columns)) ≡ l.initial.made ++ map (λ column. column.name) (filter says_key l.columns)
