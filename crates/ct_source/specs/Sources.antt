-- The rows that a source stands for. This project's own.
use Rattle.std.specs.Prelude.{List}
use Rattle.ct_types.specs.declared.value.Row.{Row}
use Rattle.ct_source.specs.declared.source.Source.{Source}
use Rattle.ct_source.specs.declared.source.Source.TheVariants.{Listed, Stored, Indexed}

abbrev pub source_rows : Source → List Row
source_rows (Listed rows) = rows.now
source_rows (Stored table) = table.now.rows
source_rows (Indexed index) = index.now.rows
