-- Whether the rows that a statement writes fit their table. This project's own.
use Rattle.std.specs.Prelude.{◌≡◌, List, Some, Ok}
use Rattle.std.specs.List.{AllByRecursion}
use Rattle.ct_types.specs.Answers.{Answer}
use Rattle.ct_types.specs.declared.bound.Bound.{Bound}
use Rattle.ct_types.specs.declared.bound.Bound.TheVariants.{Write as Writes}
use Rattle.ct_types.specs.declared.bound.BoundWrite.{BoundWrite}
use Rattle.ct_types.specs.declared.command.Command.{Command}
use Rattle.ct_types.specs.declared.command.Command.TheVariants.{Sql}
use Rattle.ct_types.specs.declared.entry.Write.{Write}
use Rattle.ct_model.specs.declared.db.Table.{Table}
use Rattle.ct_model.specs.Tables.{catalogued, table_of}
use Rattle.ct_bind.specs.Binding.{binding}
use Rattle.ct_write.specs.Fitting.{IsFit}
use Rattle.ct_write.specs.Writes.{writes_of}
use Rattle.ct_machine.specs.Reads.{catalogue, world_of}
use Rattle.ct_state.specs.Seen.{Seen}

-- the rows that a write comes to on a table fit the table's columns
abbrev pub FitsOn : Seen → BoundWrite → Table → Type 0
FitsOn seen write table = (writes : List Write) → writes_of (world_of seen) (catalogued table) write table.rows ≡ Ok writes
    → AllByRecursion (λ one. IsFit table.schema.columns one.row) writes

-- they fit its own table, where that is there
abbrev pub WriteFits : Seen → BoundWrite → Type 0
WriteFits seen write = (table : Table) → table_of seen.db.tables write.table ≡ Some table → FitsOn seen write table

-- what binding answers is a write whose rows fit, or no write
abbrev pub AnswerFits : Seen → Answer Bound → Type 0
AnswerFits seen answer = (write : BoundWrite) → answer ≡ Ok (Writes write) → WriteFits seen write

-- the rows that a statement writes fit their table as it is seen; whatever is no sentence writes none
abbrev pub RowsFit : Seen → Command → Type 0
RowsFit seen (Sql statement) = AnswerFits seen (binding (catalogue seen.db) seen.db.keep seen.variables statement)
RowsFit seen other = Unit {0}
