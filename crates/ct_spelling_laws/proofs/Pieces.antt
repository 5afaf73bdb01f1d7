-- The pieces of a valid database can be spelled exactly where its kept commits are short.
use Rattle.std.proofs.Common.{ℕ, zero, suc, ◌+◌, ◌*◌, ◌≤◌, ◌<◌, List, [], ◌∷◌, ◌++◌, length, map, take, drop, sym, subst, arith, length-append, length-take, take-append-drop}
use Rattle.std.specs.List.{AllByRecursion, flat_map}
use Rattle.std.specs.Option.{IsSomeAnd}
use Rattle.ct_types.specs.declared.entry.Kept.{Kept}
use Rattle.ct_types.specs.declared.piece.Piece.TheVariants as piece
use Rattle.ct_types.specs.declared.schema.Schema.{Schema}
use Rattle.ct_types.specs.declared.value.Row.{Row}
use Rattle.ct_types.proofs.Lists.{all_append, all_front, all_back, all_mapped, all_join}
use Rattle.ct_model.specs.declared.db.Table.{Table}
use Rattle.ct_model.specs.declared.db.Db.{Db}
use Rattle.ct_model.specs.Schemas as model
use Rattle.ct_model.specs.Schemas.{IsSchema}
use Rattle.ct_model.specs.Valid.{IsTableValid, IsKeptValid, IsValid}
use Rattle.ct_model.proofs.Members.{all_weaken, all_map}
use Rattle.ct_model_laws.proofs.Numbered.{each_itself, found_within}
use Rattle.ct_codec.specs.Spellings.{spell_row, RowFits, spell_schema, spell_tracked, PieceFits}
use Rattle.ct_found.specs.Pieces.{groups, table_pieces, pieces_of}
use Rattle.ct_spelling_laws.specs.Sizes.{IsShortCommit, HasShortCommits}
use Rattle.ct_spelling_laws.specs.Laws.{PiecesFit}
use Rattle.ct_spelling_laws.proofs.Commits.{kept_fits}
use Rattle.ct_spelling_laws.proofs.Definitions.{schema_spelled, keep_spelled, tracked_spelled}
use Rattle.ct_spelling_laws.proofs.Lengths.{flat_most}
use Rattle.ct_spelling_laws.proofs.Values.{row_spelled}

-- ---- rows

-- a group has at most 256 rows, which fit the table
abbrev IsGroup : Schema → List Row → Type 0
IsGroup schema rows = (length rows ≤ 256) × AllByRecursion (model.RowFits schema) rows

are_groups : (schema : Schema) (count : ℕ) (rows : List Row) → AllByRecursion (model.RowFits schema) rows → AllByRecursion (IsGroup schema) (groups count rows)
are_groups schema zero rows fit = tt
are_groups schema (suc count) [] fit = tt
are_groups schema (suc count) (row ∷ rows) fit =
    let all : List Row = row ∷ rows in
    let whole : AllByRecursion (model.RowFits schema) (take 256 all ++ drop 256 all) = subst (AllByRecursion (model.RowFits schema)) (sym (take-append-drop 256 all)) fit in (
      (omega (arith, length-take 256 all), all_front (model.RowFits schema) (take 256 all) (drop 256 all) whole),
      are_groups schema count (drop 256 all) (all_back (model.RowFits schema) (take 256 all) (drop 256 all) whole),
    )

rows_fit : (schema : Schema) (rows : List Row) → IsSchema schema → schema.id ≤ 256 → IsGroup schema rows → PieceFits (piece.Rows schema.id rows)
rows_fit schema rows is low group =
    let each : AllByRecursion (λ row. RowFits row × (length (spell_row row) ≤ 1024322)) rows = all_weaken (model.RowFits schema) _ (λ row fits. row_spelled schema row is fits) rows group.1 in
    let short : length (flat_map spell_row rows) ≤ 1024322 * length rows = flat_most spell_row 1024322 rows (all_weaken _ _ (λ row one. one.1) rows each) in
    (omega (arith, short, group.0), (omega (arith, low), (omega (arith, group.0), all_weaken _ _ (λ row one. one.0) rows each)))

-- ---- tables

table_fits : (db : Db) (table : Table) → IsValid db → table.schema.id ≤ 256 → IsTableValid db.version db.keep table → PieceFits (piece.Table table.schema table.tracked)
table_fits db table valid low is =
    let schema = schema_spelled table.schema is.schema low in
    let tracked = tracked_spelled db.version db.keep table.tracked valid.version is.tracked in
    (omega (arith, schema.1, tracked.1, length-append (spell_schema table.schema) (spell_tracked table.tracked)), (schema.0, tracked.0))

of_table_fit : (db : Db) (table : Table) → IsValid db → table.schema.id ≤ 256 → IsTableValid db.version db.keep table → AllByRecursion PieceFits (table_pieces table)
of_table_fit db table valid low is = (
  table_fits db table valid low is,
  all_map (IsGroup table.schema) PieceFits (λ rows. piece.Rows table.schema.id rows) (λ rows group. rows_fit table.schema rows is.schema low group) _
      (are_groups table.schema (length table.rows) table.rows is.rows),
)

low_ids : (db : Db) → IsValid db → AllByRecursion (λ (table : Table). table.schema.id ≤ 256) db.tables
low_ids db valid =
    all_weaken _ _
    (λ (table : Table) is.
    let here : table.schema.id < 1 + length db.tables = found_within 1 db.tables table.schema.id valid.numbered (subst (λ o. IsSomeAnd o (λ t. Unit {0})) (sym is.1) tt) in
    omega (arith, here, valid.few)) db.tables (each_itself 1 db.tables valid.numbered)

all_flat : {X Y : Type 0} (P : Y → Type 0) (f : X → List Y) (xs : List X) → AllByRecursion (λ x. AllByRecursion P (f x)) xs → AllByRecursion P (flat_map f xs)
all_flat P f [] all = tt
all_flat P f (x ∷ xs) all = all_append P (f x) (flat_map f xs) all.0 (all_flat P f xs all.1)

of_tables_fit : (db : Db) → IsValid db → AllByRecursion PieceFits (flat_map table_pieces db.tables)
of_tables_fit db valid =
    all_flat PieceFits table_pieces db.tables
    (all_join (λ (table : Table). table.schema.id ≤ 256) (IsTableValid db.version db.keep) _ (λ table low is. of_table_fit db table valid low is) db.tables (low_ids db valid) valid.tables)

-- ---- the whole

kept_piece : (db : Db) (kept : Kept) → IsValid db → IsKeptValid db kept → IsShortCommit kept → PieceFits (piece.Kept kept)
kept_piece db kept valid is short = (omega (arith, short), kept_fits db kept valid is short)

of_kept_fit : (db : Db) → IsValid db → HasShortCommits db → AllByRecursion PieceFits (map (λ kept. piece.Kept kept) db.kept)
of_kept_fit db valid short =
    all_map (λ kept. IsKeptValid db kept × IsShortCommit kept) PieceFits (λ kept. piece.Kept kept) (λ kept both. kept_piece db kept valid both.0 both.1) db.kept
    (all_join (IsKeptValid db) IsShortCommit _ (λ kept is one. (is, one)) db.kept valid.kept short)

head_fits : (db : Db) → IsValid db → PieceFits (piece.Head db.version db.time db.last_xdes db.keep)
head_fits db valid =
    let keep = keep_spelled db.keep valid.keep in
    (omega (arith, keep.1), (omega (arith, valid.version), omega (arith, valid.time), omega (arith, valid.last_xdes), keep.0))

all_fit : (db : Db) → IsValid db → HasShortCommits db → AllByRecursion PieceFits (pieces_of db)
all_fit db valid short = (
  head_fits db valid,
  all_append PieceFits (flat_map table_pieces db.tables) _ (of_tables_fit db valid)
      (all_append PieceFits (map (λ kept. piece.Kept kept) db.kept) (piece.End ∷ []) (of_kept_fit db valid short) ((omega arith, tt), tt)),
)

are_short : (db : Db) → AllByRecursion PieceFits (pieces_of db) → HasShortCommits db
are_short db fit =
    let behind = all_back PieceFits (flat_map table_pieces db.tables) _ fit.1 in
    let kept = all_mapped (λ kept. piece.Kept kept) PieceFits db.kept (all_front PieceFits (map (λ kept. piece.Kept kept) db.kept) (piece.End ∷ []) behind) in
    all_weaken _ IsShortCommit (λ kept fits. omega (arith, fits.0)) db.kept kept

pub pieces_fit : PiecesFit
pieces_fit db valid = (are_short db, all_fit db valid)
