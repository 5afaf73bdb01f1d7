use Rattle.std.proofs.Common.{◌↔◌, drop}
use Rattle.std.specs.List.{AllByRecursion}
use Rattle.ct_codec.specs.Spellings.{ColumnFits}
use Rattle.ct_codec.proofs.fitting.columns_fit.Given as goal

abbrev pub invariant-loop-column : goal.invariant-loop-column
invariant-loop-column l = AllByRecursion ColumnFits l.columns ↔ AllByRecursion ColumnFits (drop l.column-index l.columns)
