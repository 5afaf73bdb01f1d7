use Rattle.std.proofs.Common.{◌∷◌, [], ◌++◌, map, sym, subst}
use Rattle.std.specs.List.{flat_map}
use Rattle.ct_types.specs.declared.piece.Piece.TheVariants as piece
use Rattle.ct_found.specs.Pieces.{table_pieces, pieces_of}
use Rattle.ct_found.proofs.Gathering.{front_ends}
use Rattle.ct_checkpoint.specs.Writing.{Appends}
use Rattle.ct_checkpoint.proofs.Writes.{appends_then, appends_last}
use Rattle.ct_checkpoint.proofs.writing.put_pieces.Goals as goal

pub returns : goal.returns
returns c =
    let db = c.args.db.now in
    let head = piece.Head db.version db.time db.last_xdes db.keep ∷ [] in
    let tables = flat_map table_pieces db.tables in
    let kept = map (λ one. piece.Kept one) db.kept in
    let old = c.args.out.now.items in
    let first = c.put_head.new.out.items in
    let second = c.put_tables.new.out.items in
    let third = c.put_all_kept.new.out.items in
    let some_tables = subst (λ l. Appends (flat_map table_pieces l) first second) c.as_slice.ensures c.in_ok-put_tables.ensures in
    let some_kept = subst (λ l. Appends (map (λ one. piece.Kept one) l) second third) c.as_slice-2.ensures c.in_ok-put_all_kept.ensures in
    appends_last (head ++ (tables ++ kept)) (pieces_of db) (piece.End ∷ []) old third c.put_piece.new.out.items c.put_piece.result (sym (front_ends db))
    (appends_then head (tables ++ kept) old first third c.in_ok-put_head.ensures (appends_then tables kept first second third some_tables some_kept)) c.put_piece.ensures
