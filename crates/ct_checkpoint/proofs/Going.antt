-- The pieces of a valid database go on, each with what those before it made.
use Rattle.std.proofs.Common.{◌≡◌, ◌≢◌, ℕ, zero, suc, ◌+◌, ◌%◌, ◌<◌, ◌≤◌, List, [], ◌∷◌, ◌++◌, length, map, take, drop, refl, sym, ap, ◌∙◌, subst, arith, append_assoc, length-append, length-take, length-drop, take-append-drop}
use Rattle.std.specs.List.{AllByRecursion, flat_map}
use Rattle.std.specs.Option.{IsSomeAnd}
use Rattle.std.proofs.lemmas.List.{append-nil, map-append}
use Rattle.ct_types.specs.declared.value.Row.{Row}
use Rattle.ct_types.specs.declared.entry.Kept.{Kept}
use Rattle.ct_types.specs.declared.piece.Piece.{Piece}
use Rattle.ct_types.specs.declared.piece.Piece.TheVariants as piece
use Rattle.ct_types.proofs.Lists.{all_front, all_back, all_mapped}
use Rattle.ct_model.specs.declared.db.Table.{Table}
use Rattle.ct_model.specs.declared.db.Db.{Db}
use Rattle.ct_model.specs.Applies.{IsNewSchema}
use Rattle.ct_model.specs.Lists.{EachToLater}
use Rattle.ct_model.specs.Schemas.{RowFits}
use Rattle.ct_model.specs.Valid.{AreNumbered, AreRising, IsTableValid, IsKeptValid, ComesBefore, IsValid}
use Rattle.ct_model.proofs.Members.{all_weaken}
use Rattle.ct_applies.proofs.Each.{each_front, each_before, last_is}
use Rattle.ct_found.specs.Pieces.{groups, table_pieces, pieces_of}
use Rattle.ct_found.proofs.Gathering.{going, with_more}
use Rattle.ct_checkpoint.specs.Following.{TakesRows, GoOn, AreInOrder}
use Rattle.ct_checkpoint.proofs.Growing.{name_of, AreNamed, with_head, kept_in}

-- ---- kept commits

kept_go_on : (db : Db) (before kept : List Kept) → AllByRecursion (IsKeptValid db) kept → EachToLater ComesBefore (before ++ kept) → GoOn (going (record db { kept = before })) (map (λ k. piece.Kept k) kept ++ piece.End ∷ [])
kept_go_on db before [] valid ordered = (refl, tt, tt)
kept_go_on db before (k ∷ kept) valid ordered = (
  refl,
  (kept_in db (record db { kept = before }) k refl refl refl refl valid.0, each_before ComesBefore before k kept ordered),
  kept_go_on db (before ++ k ∷ []) kept valid.1 (subst (EachToLater ComesBefore) (sym (append_assoc before (k ∷ []) kept)) ordered),
)

-- ---- rows

-- a table before its last rows
abbrev reaching : Table → List Row → Table
reaching table rows = record table { rows = table.rows ++ rows }

-- what is left of rows goes on in the last table, as far as it has come
pub record Left (table : Table) (rows : List Row) : Type 0 where
  pub full : 0 < length rows → length table.rows % 256 ≡ 0
  pub fit : AllByRecursion (RowFits table.schema) rows
  pub rising : AreRising table.schema (table.rows ++ rows)

one_group : (table : Table) (row : Row) (rows : List Row) → Left table (row ∷ rows) → TakesRows table.schema.id (take 256 (row ∷ rows)) table
one_group table row rows left =
    let front = take 256 (row ∷ rows) in
    let back = drop 256 (row ∷ rows) in
    let whole : front ++ back ≡ row ∷ rows = take-append-drop 256 (row ∷ rows) in
    record {
      group = record {
        id_is = refl;
        full = left.full (omega arith);
        some = omega (arith, length-take 256 (row ∷ rows));
        few = omega (arith, length-take 256 (row ∷ rows));
        fit = all_front (RowFits table.schema) front back (subst (AllByRecursion (RowFits table.schema)) (sym whole) left.fit);
      };
      rising = each_front _ (table.rows ++ front) back (subst (AreRising table.schema) (ap (λ l. table.rows ++ l) (sym whole) ∙ sym (append_assoc table.rows front back)) left.rising);
    }

next_group : (table : Table) (row : Row) (rows : List Row) → Left table (row ∷ rows) → Left (reaching table (take 256 (row ∷ rows))) (drop 256 (row ∷ rows))
next_group table row rows left =
    let front = take 256 (row ∷ rows) in
    let back = drop 256 (row ∷ rows) in
    let whole : front ++ back ≡ row ∷ rows = take-append-drop 256 (row ∷ rows) in
    record {
      full = λ some. omega (arith, some, left.full (omega arith), length-drop 256 (row ∷ rows), length-take 256 (row ∷ rows), length-append table.rows front);
      fit = all_back (RowFits table.schema) front back (subst (AllByRecursion (RowFits table.schema)) (sym whole) left.fit);
      rising = subst (AreRising table.schema) (ap (λ l. table.rows ++ l) (sym whole) ∙ sym (append_assoc table.rows front back)) left.rising;
    }

rows_go_on : (n : ℕ) (db : Db) (before : List Table) (table : Table) (rows : List Row) (more : List Piece) → db.kept ≡ [] → length rows ≤ n → Left table rows
    → GoOn (going (record db { tables = before ++ reaching table rows ∷ [] })) more
    → GoOn (going (record db { tables = before ++ table ∷ [] })) (map (λ r. piece.Rows table.schema.id r) (groups n rows) ++ more)
rows_go_on zero db before table [] more none le left goes = subst (λ l. GoOn (going (record db { tables = before ++ record table { rows = l } ∷ [] })) more) (append-nil table.rows) goes
rows_go_on zero db before table (row ∷ rows) more none le left goes = absurd (omega arith)
rows_go_on (suc n) db before table [] more none le left goes = subst (λ l. GoOn (going (record db { tables = before ++ record table { rows = l } ∷ [] })) more) (append-nil table.rows) goes
rows_go_on (suc n) db before table (row ∷ rows) more none le left goes =
    let front = take 256 (row ∷ rows) in
    let back = drop 256 (row ∷ rows) in
    let whole : (table.rows ++ front) ++ back ≡ table.rows ++ row ∷ rows = append_assoc table.rows front back ∙ ap (λ l. table.rows ++ l) (take-append-drop 256 (row ∷ rows)) in (
      refl,
      (none, subst (λ o. IsSomeAnd o (TakesRows table.schema.id front)) (sym (last_is before table)) (one_group table row rows left)),
      subst (λ l. GoOn (going (record db { tables = l })) (map (λ r. piece.Rows table.schema.id r) (groups n back) ++ more)) (sym (with_more before table front))
          (rows_go_on n db before (reaching table front) back more none (omega (arith, length-drop 256 (row ∷ rows))) (next_group table row rows left)
          (subst (λ l. GoOn (going (record db { tables = before ++ record table { rows = l } ∷ [] })) more) (sym whole) goes)),
    )

-- ---- tables

pub record TablesValid (db : Db) (tables : List Table) : Type 0 where
  pub few : length tables ≤ 256
  pub numbered : AreNumbered 1 tables
  pub names : AreNamed tables
  pub each : AllByRecursion (IsTableValid db.version db.keep) tables

id_at : (from : ℕ) (before : List Table) (table : Table) (tables : List Table) → AreNumbered from (before ++ table ∷ tables) → table.schema.id ≡ from + length before
id_at from [] table tables numbered = omega (arith, numbered.0)
id_at from (first ∷ before) table tables numbered = omega (arith, id_at (from + 1) before table tables numbered.1)

new_there : (db : Db) (before : List Table) (table : Table) (tables : List Table) → TablesValid db (before ++ table ∷ tables) → IsNewSchema before table.schema
new_there db before table tables valid = record {
  id = omega (arith, id_at 1 before table tables valid.numbered);
  room = omega (arith, valid.few, length-append before (table ∷ tables));
  name = all_mapped name_of (λ name. name ≢ name_of table) before
      (each_before (λ a b. a ≢ b) (map name_of before) (name_of table) (map name_of tables) (subst (EachToLater (λ a b. a ≢ b)) (map-append name_of before (table ∷ tables)) valid.names));
  definable = (all_back (IsTableValid db.version db.keep) before (table ∷ tables) valid.each).0.schema;
}

tables_go_on : (db : Db) (before tables : List Table) (more : List Piece) → db.kept ≡ [] → TablesValid db (before ++ tables)
    → GoOn (going (record db { tables = before ++ tables })) more → GoOn (going (record db { tables = before })) (flat_map table_pieces tables ++ more)
tables_go_on db before [] more none valid goes = subst (λ l. GoOn (going (record db { tables = l })) more) (append-nil before) goes
tables_go_on db before (table ∷ tables) more none valid goes =
    let this = (all_back (IsTableValid db.version db.keep) before (table ∷ tables) valid.each).0 in
    let bare : Table = record table { rows = [] } in
    let rows = map (λ r. piece.Rows table.schema.id r) (groups (length table.rows) table.rows) in
    let assoc : (before ++ table ∷ []) ++ tables ≡ before ++ table ∷ tables = append_assoc before (table ∷ []) tables in
    let rest : GoOn (going (record db { tables = before ++ table ∷ [] })) (flat_map table_pieces tables ++ more) =
    tables_go_on db (before ++ table ∷ []) tables more none (subst (TablesValid db) (sym assoc) valid) (subst (λ l. GoOn (going (record db { tables = l })) more) (sym assoc) goes) in (
      refl,
      (none, new_there db before table tables valid, this.tracked),
      subst (GoOn (going (record db { tables = before ++ bare ∷ [] }))) (sym (append_assoc rows (flat_map table_pieces tables) more))
          (rows_go_on (length table.rows) db before bare table.rows (flat_map table_pieces tables ++ more) none (omega arith) (record { full = λ some. refl; fit = this.rows; rising = this.rising }) rest),
    )

-- ---- all of them

pub in_order : (db : Db) → IsValid db → AreInOrder (pieces_of db)
in_order db valid =
    let bare = with_head db.version db.time db.last_xdes db.keep in
    let whole : Db = record bare { tables = db.tables } in (
      record { version_within = valid.version; time_within = valid.time; xdes_within = valid.last_xdes; keep_valid = valid.keep },
      tables_go_on bare [] db.tables (map (λ k. piece.Kept k) db.kept ++ piece.End ∷ []) refl (record { few = valid.few; numbered = valid.numbered; names = valid.names; each = valid.tables })
          (kept_go_on whole [] db.kept (all_weaken (IsKeptValid db) (IsKeptValid whole) (λ k is. kept_in db whole k refl refl refl refl is) db.kept valid.kept) valid.ordered),
    )
