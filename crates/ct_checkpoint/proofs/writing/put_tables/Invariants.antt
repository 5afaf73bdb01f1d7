use Rattle.std.proofs.Common.{take}
use Rattle.std.specs.List.{flat_map}
use Rattle.ct_found.specs.Pieces.{table_pieces}
use Rattle.ct_checkpoint.specs.Writing.{Appends}
use Rattle.ct_checkpoint.proofs.writing.put_tables.Given as goal

abbrev pub invariant-loop-table : goal.invariant-loop-table
invariant-loop-table l = Appends (flat_map table_pieces (take l.table-index l.tables)) l.initial.out.items l.out.items
