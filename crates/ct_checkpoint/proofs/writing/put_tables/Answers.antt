use Rattle.std.proofs.Common.{◌≡◌, ◌+◌, ◌∷◌, [], ◌++◌, take, arith}
use Rattle.std.proofs.lemmas.Grind.{common_steps}
use Rattle.ct_found.specs.Pieces.{table_pieces}
use Rattle.ct_checkpoint.proofs.Writes.{appends_list}
use Rattle.ct_checkpoint.proofs.writing.put_tables.Goals as goal

pub loop-table-preserved : goal.loop-table-preserved
loop-table-preserved c =
    let tables = c.args.tables.now in
    let before = take c.loop-table.table-index tables in
    let table = c.table-item.result in
    let more : take (c.loop-table.table-index + 1) tables ≡ before ++ table ∷ [] = grind (arith, common_steps) in
    appends_list table_pieces before (take (c.loop-table.table-index + 1) tables) table c.args.out.now.items c.loop-table.out.items c.put_table.new.out.items more c.loop-table.invariant c.in_ok-put_table.ensures
