use Rattle.std.proofs.Common.{◌≡◌, ◌++◌, drop}
use Rattle.ct_bind.specs.Sources.{shown_columns}
use Rattle.ct_bind.proofs.sources.push_columns.Given as goal

abbrev pub invariant-loop-column : goal.invariant-loop-column
invariant-loop-column l = l.made ++ shown_columns (drop l.column-index l.columns) ≡ l.initial.made ++ shown_columns l.columns
