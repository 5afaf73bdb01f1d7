use Rattle.std.proofs.Common.{◌≡◌, drop}
use Rattle.ct_types.specs.Answers.{onto, each}
use Rattle.ct_bind_definition.specs.Definitions.{defined_column}
use Rattle.ct_bind_definition.proofs.table.defined_columns.Given as goal

abbrev pub invariant-loop-column : goal.invariant-loop-column
invariant-loop-column l = onto l.made (each (defined_column l.key) (drop l.column-index l.columns)) ≡ each (defined_column l.key) l.columns
