-- The pieces of a database make it again, so that they are those of one database.
use Rattle.std.proofs.Common.{◌≡◌, ℕ, zero, suc, ◌≤◌, true, false, List, [], ◌∷◌, ◌++◌, length, map, fold, take, drop, refl, sym, ◌∙◌, ap, arith, append_assoc, take-append-drop, length-drop}
use Rattle.std.specs.List.{flat_map}
use Rattle.std.proofs.lemmas.List.{append-nil}
use Rattle.std.proofs.lemmas.List.Sums.{fold-append}
use Rattle.ct_types.specs.declared.value.Row.{Row}
use Rattle.ct_types.specs.declared.entry.Kept.{Kept}
use Rattle.ct_types.specs.declared.piece.Piece.{Piece}
use Rattle.ct_types.specs.declared.piece.Piece.TheVariants as piece
use Rattle.ct_model.specs.declared.db.Table.{Table}
use Rattle.ct_model.specs.declared.db.Db.{Db}
use Rattle.ct_model.specs.Apply.{no_db}
use Rattle.ct_found.specs.Pieces.{groups, table_pieces, pieces_of, front_of}
use Rattle.ct_found.specs.Gathered.{with_rows, Made, gather}
use Rattle.ct_found.specs.Laws.{OneDatabase}

abbrev pub going : Db → Made
going db = record { db = db; ended = false }

pub with_more : (before : List Table) (t : Table) (rows : List Row) → with_rows (before ++ t ∷ []) rows ≡ before ++ record t { rows = t.rows ++ rows } ∷ []
with_more [] t rows = refl
with_more (x ∷ []) t rows = refl
with_more (x ∷ y ∷ more) t rows = ap (λ l. x ∷ l) (with_more (y ∷ more) t rows)

rows_gathered : (n : ℕ) (id : ℕ) (rows : List Row) (db : Db) (before : List Table) (t : Table) → length rows ≤ n
    → fold gather (going (record db { tables = before ++ t ∷ [] })) (map (λ r. piece.Rows id r) (groups n rows)) ≡ going (record db { tables = before ++ record t { rows = t.rows ++ rows } ∷ [] })
rows_gathered zero id [] db before t le = ap (λ l. going (record db { tables = before ++ record t { rows = l } ∷ [] })) (sym (append-nil t.rows))
rows_gathered zero id (r ∷ rows) db before t le = absurd (omega arith)
rows_gathered (suc n) id [] db before t le = ap (λ l. going (record db { tables = before ++ record t { rows = l } ∷ [] })) (sym (append-nil t.rows))
rows_gathered (suc n) id (r ∷ rows) db before t le =
    let front = take 256 (r ∷ rows) in
    let back = drop 256 (r ∷ rows) in
    ap (λ l. fold gather (going (record db { tables = l })) (map (λ r. piece.Rows id r) (groups n back))) (with_more before t front)
    ∙ rows_gathered n id back db before (record t { rows = t.rows ++ front }) (omega (arith, length-drop 256 (r ∷ rows)))
    ∙ ap (λ l. going (record db { tables = before ++ record t { rows = l } ∷ [] })) (append_assoc t.rows front back ∙ ap (λ l. t.rows ++ l) (take-append-drop 256 (r ∷ rows)))

tables_gathered : (db : Db) (before tables : List Table) → fold gather (going (record db { tables = before })) (flat_map table_pieces tables) ≡ going (record db { tables = before ++ tables })
tables_gathered db before [] = ap (λ l. going (record db { tables = l })) (sym (append-nil before))
tables_gathered db before (t ∷ tables) =
    fold-append gather (going (record db { tables = before })) (table_pieces t) (flat_map table_pieces tables)
    ∙ ap (λ m. fold gather m (flat_map table_pieces tables)) (rows_gathered (length t.rows) t.schema.id t.rows db before (record { schema = t.schema; rows = []; tracked = t.tracked }) (omega arith))
    ∙ tables_gathered db (before ++ t ∷ []) tables
    ∙ ap (λ l. going (record db { tables = l })) (append_assoc before (t ∷ []) tables)

kept_gathered : (db : Db) (before kept : List Kept) → fold gather (going (record db { kept = before })) (map (λ k. piece.Kept k) kept) ≡ going (record db { kept = before ++ kept })
kept_gathered db before [] = ap (λ l. going (record db { kept = l })) (sym (append-nil before))
kept_gathered db before (k ∷ kept) = kept_gathered db (before ++ k ∷ []) kept ∙ ap (λ l. going (record db { kept = l })) (append_assoc before (k ∷ []) kept)

pub front_gathered : (db : Db) → fold gather (going no_db) (front_of db) ≡ going db
front_gathered db =
    let bare : Db = record no_db { version = db.version; time = db.time; last_xdes = db.last_xdes; keep = db.keep } in
    let last = map (λ k. piece.Kept k) db.kept in
    fold-append gather (going bare) (flat_map table_pieces db.tables) last
    ∙ ap (λ m. fold gather m last) (tables_gathered bare [] db.tables)
    ∙ kept_gathered (record bare { tables = db.tables }) [] db.kept

pub front_ends : (db : Db) → pieces_of db ≡ front_of db ++ piece.End ∷ []
front_ends db = ap (λ l. piece.Head db.version db.time db.last_xdes db.keep ∷ l) (sym (append_assoc (flat_map table_pieces db.tables) (map (λ k. piece.Kept k) db.kept) (piece.End ∷ [])))

pub gathered : (db : Db) → fold gather (going no_db) (pieces_of db) ≡ record { db = db; ended = true }
gathered db =
    ap (λ l. fold gather (going no_db) l) (front_ends db)
    ∙ fold-append gather (going no_db) (front_of db) (piece.End ∷ [])
    ∙ ap (λ m. fold gather m (piece.End ∷ [])) (front_gathered db)

-- behind the end nothing counts
ended_stays : (db : Db) (more : List Piece) → fold gather (record { db = db; ended = true }) more ≡ record { db = db; ended = true }
ended_stays db [] = refl
ended_stays db (p ∷ more) = ended_stays db more

pub one_database : OneDatabase
one_database a b more e =
    let left : Made = record { db = a; ended = true } in
    let right : Made = record { db = b; ended = true } in
    let same : left ≡ right =
    (sym (gathered a) ∙ ap (λ l. fold gather (going no_db) l) e ∙ fold-append gather (going no_db) (pieces_of b) more ∙ ap (λ m. fold gather m more) (gathered b) ∙ ended_stays b more) in
    ap (λ m. m.db) same
