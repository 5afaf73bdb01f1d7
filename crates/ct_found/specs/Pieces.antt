-- The pieces of a database, as a checkpoint has them one after the other. This project's own.
use Rattle.std.specs.Prelude.{ℕ, zero, suc, List, [], ◌∷◌, ◌++◌, length, map, take, drop}
use Rattle.std.specs.List.{flat_map}
use Rattle.ct_types.specs.declared.value.Row.{Row}
use Rattle.ct_types.specs.declared.piece.Piece.{Piece}
use Rattle.ct_types.specs.declared.piece.Piece.TheVariants as piece
use Rattle.ct_model.specs.declared.db.Table.{Table}
use Rattle.ct_model.specs.declared.db.Db.{Db}
use Rattle.ct_codec.specs.Spellings.{spell_piece}

-- rows in groups of 256, of which the last has 1 to 256; there are at most as many groups as the count
abbrev pub groups : ℕ → List Row → List (List Row)
groups zero rows = []
groups (suc count) [] = []
groups (suc count) (row ∷ rows) = take 256 (row ∷ rows) ∷ groups count (drop 256 (row ∷ rows))

-- a piece for the table, and one for each group of its rows
abbrev pub table_pieces : Table → List Piece
table_pieces table = piece.Table table.schema table.tracked ∷ map (λ rows. piece.Rows table.schema.id rows) (groups (length table.rows) table.rows)

-- the head; each table with its rows, by id; each kept commit, by version; the end
abbrev pub pieces_of : Db → List Piece
pieces_of db =
    piece.Head db.version db.time db.last_xdes db.keep ∷ (flat_map table_pieces db.tables ++ (map (λ kept. piece.Kept kept) db.kept ++ piece.End ∷ []))

-- the same without the end
abbrev pub front_of : Db → List Piece
front_of db = piece.Head db.version db.time db.last_xdes db.keep ∷ (flat_map table_pieces db.tables ++ map (λ kept. piece.Kept kept) db.kept)

-- pieces are spelled one after the other
abbrev pub spell_pieces : List Piece → List ℕ
spell_pieces pieces = flat_map spell_piece pieces
