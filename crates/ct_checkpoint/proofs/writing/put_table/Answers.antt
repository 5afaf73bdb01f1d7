use Rattle.std.proofs.Common.{◌∷◌, [], refl, subst, OnOk}
use Rattle.ct_types.specs.declared.piece.Piece.TheVariants as piece
use Rattle.ct_found.specs.Pieces.{table_pieces}
use Rattle.ct_checkpoint.specs.Writing.{Appends}
use Rattle.ct_checkpoint.proofs.Writes.{rows_pieces, appends_last}
use Rattle.ct_checkpoint.proofs.writing.put_table.Goals as goal

pub returns : goal.returns
returns c =
    let table = c.args.table.now in
    let near = c.put_definition.new.out.items in
    let new = c.put_groups.new.out.items in
    appends_last (piece.Table table.schema table.tracked ∷ []) (table_pieces table) (rows_pieces table.schema.id table.rows) c.args.out.now.items near new c.put_groups.result refl c.in_ok-put_definition.ensures
    (subst (λ rows. OnOk c.put_groups.result (Appends (rows_pieces table.schema.id rows) near new)) c.as_slice.ensures c.put_groups.ensures)
