use Rattle.std.proofs.Common.{◌≡◌, ◌+◌, drop}
use Rattle.ct_bind_definition.specs.Definitions.{id_from}
use Rattle.ct_bind_definition.proofs.table.find_id.Given as goal

abbrev pub invariant-loop-column : goal.invariant-loop-column
invariant-loop-column l = (id_from l.name l.id (drop l.column-index l.columns) ≡ id_from l.name 1 l.columns) × (l.id ≡ l.column-index + 1)
