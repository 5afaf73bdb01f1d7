-- A piece that goes on with a valid database makes a valid database, whose pieces are those so far and this one.
use Rattle.std.proofs.Common.{◌≡◌, ◌≢◌, ℕ, ◌+◌, true, Option, List, [], ◌∷◌, ◌++◌, length, map, refl, sym, ap, ◌∙◌, subst, arith, append_assoc, length-append}
use Rattle.std.specs.List.{AllByRecursion, flat_map}
use Rattle.std.proofs.lemmas.List.{append-nil, map-append}
use Rattle.std.proofs.lemmas.List.Concat.{flat_map-append}
use Rattle.ct_types.specs.declared.value.Row.{Row}
use Rattle.ct_types.specs.declared.tracked.Tracked.{Tracked}
use Rattle.ct_types.specs.declared.schema.Schema.{Schema}
use Rattle.ct_types.specs.declared.entry.Keep.{Keep}
use Rattle.ct_types.specs.declared.entry.Kept.{Kept}
use Rattle.ct_types.specs.declared.piece.Piece.{Piece}
use Rattle.ct_types.specs.declared.piece.Piece.TheVariants as piece
use Rattle.ct_types.proofs.Lists.{all_append, all_front, all_back}
use Rattle.ct_model.specs.declared.db.Table.{Table}
use Rattle.ct_model.specs.declared.db.Db.{Db}
use Rattle.ct_model.specs.Applies.{IsNewSchema}
use Rattle.ct_model.specs.Apply.{no_db, commit_stays}
use Rattle.ct_model.specs.Lists.{EachToLater}
use Rattle.ct_model.specs.Names.{folded}
use Rattle.ct_model.specs.Schemas.{RowFits}
use Rattle.ct_model.specs.Valid.{AreNumbered, IsTrackedValid, IsTableValid, IsChangeValid, IsKeptValid, ComesBefore, IsValid}
use Rattle.ct_model.proofs.Members.{all_weaken, all_map, each_append}
use Rattle.ct_applies.proofs.Each.{EndsIn, ends_in}
use Rattle.ct_found.specs.Pieces.{groups, table_pieces, front_of}
use Rattle.ct_found.specs.Gathered.{with_rows, goes_on}
use Rattle.ct_found.proofs.Gathering.{with_more}
use Rattle.ct_checkpoint.specs.Following.{IsHead, TakesRows, Follows}
use Rattle.ct_checkpoint.proofs.Groups.{groups_push}

-- a valid database after a piece
pub record Grows (db : Db) (p : Piece) (after : Db) : Type 0 where
  pub valid : IsValid after
  pub front : front_of after ≡ front_of db ++ p ∷ []

abbrev pub name_of : Table → List ℕ
name_of table = folded table.schema.name

abbrev pub AreNamed : List Table → Type 0
AreNamed tables = EachToLater (λ a b. a ≢ b) (map name_of tables)

abbrev kept_pieces : List Kept → List Piece
kept_pieces kept = map (λ k. piece.Kept k) kept

-- ---- the head

abbrev pub with_head : ℕ → ℕ → ℕ → Option Keep → Db
with_head version time last_xdes keep = record no_db { version = version; time = time; last_xdes = last_xdes; keep = keep }

pub head_is_valid : (version time last_xdes : ℕ) (keep : Option Keep) → IsHead version time last_xdes keep → IsValid (with_head version time last_xdes keep)
head_is_valid version time last_xdes keep is = record {
  version = is.version_within;
  time = is.time_within;
  last_xdes = is.xdes_within;
  keep = is.keep_valid;
  few = omega arith;
  numbered = tt;
  names = tt;
  tables = tt;
  kept = tt;
  ordered = tt;
}

-- ---- a table

numbered_push : (from : ℕ) (tables : List Table) (table : Table) → AreNumbered from tables → table.schema.id ≡ from + length tables → AreNumbered from (tables ++ table ∷ [])
numbered_push from [] table numbered is = (omega (arith, is), tt)
numbered_push from (first ∷ tables) table numbered is = (numbered.0, numbered_push (from + 1) tables table numbered.1 (omega (arith, is)))

named_push : (tables : List Table) (table : Table) → AreNamed tables → AllByRecursion (λ one. name_of one ≢ name_of table) tables → AreNamed (tables ++ table ∷ [])
named_push tables table named new =
    let R : List ℕ → List ℕ → Type 0 = (λ a b. a ≢ b) in
    subst (EachToLater R) (sym (map-append name_of tables (table ∷ [])))
    (each_append R (map name_of tables) (name_of table ∷ []) named (tt, tt) (all_map (λ one. name_of one ≢ name_of table) (λ a. AllByRecursion (R a) (name_of table ∷ [])) name_of (λ one other. (other, tt)) tables new))

-- the pieces of tables, the last of which is this one
last_pieces : (tables : List Table) (table : Table) → flat_map table_pieces (tables ++ table ∷ []) ≡ flat_map table_pieces tables ++ table_pieces table
last_pieces tables table = flat_map-append table_pieces tables (table ∷ []) ∙ ap (λ l. flat_map table_pieces tables ++ l) (append-nil (table_pieces table))

abbrev bare_table : Schema → Option Tracked → Table
bare_table schema tracked = record { schema = schema; rows = []; tracked = tracked }

table_grows : (db : Db) (schema : Schema) (tracked : Option Tracked) → db.kept ≡ [] → IsValid db → IsNewSchema db.tables schema → IsTrackedValid db.version db.keep tracked
    → Grows db (piece.Table schema tracked) (record db { tables = db.tables ++ bare_table schema tracked ∷ [] })
table_grows db schema tracked none valid new fits =
    let table = bare_table schema tracked in
    let tables = flat_map table_pieces db.tables in
    record {
      valid = record {
        version = valid.version;
        time = valid.time;
        last_xdes = valid.last_xdes;
        keep = valid.keep;
        few = omega (arith, new.room, length-append db.tables (table ∷ []));
        numbered = numbered_push 1 db.tables table valid.numbered (omega (arith, new.id));
        names = named_push db.tables table valid.names new.name;
        tables = all_append (IsTableValid db.version db.keep) db.tables (table ∷ []) valid.tables (record { schema = new.definable; rows = tt; rising = tt; tracked = fits }, tt);
        kept = subst (AllByRecursion (IsKeptValid (record db { tables = db.tables ++ table ∷ [] }))) (sym none) tt;
        ordered = valid.ordered;
      };
      front =
          ap (λ l. piece.Head db.version db.time db.last_xdes db.keep ∷ l)
          (ap (λ kept. flat_map table_pieces (db.tables ++ table ∷ []) ++ kept_pieces kept) none
          ∙ append-nil (flat_map table_pieces (db.tables ++ table ∷ []))
          ∙ last_pieces db.tables table
          ∙ ap (λ l. l ++ piece.Table schema tracked ∷ []) (sym (append-nil tables))
          ∙ ap (λ kept. (tables ++ kept_pieces kept) ++ piece.Table schema tracked ∷ []) (sym none));
    }

-- ---- rows

abbrev with_more_rows : Table → List Row → Table
with_more_rows table rows = record table { rows = table.rows ++ rows }

rows_push : (id : ℕ) (rows : List Row) (table : Table) → TakesRows id rows table → table_pieces (with_more_rows table rows) ≡ table_pieces table ++ piece.Rows id rows ∷ []
rows_push id rows table takes =
    ap (λ l. piece.Table table.schema table.tracked ∷ l)
    (ap (λ l. map (λ r. piece.Rows table.schema.id r) l) (groups_push (length table.rows) (length (table.rows ++ rows)) table.rows rows (omega arith) (omega arith) takes.group.full takes.group.some takes.group.few)
    ∙ map-append (λ r. piece.Rows table.schema.id r) (groups (length table.rows) table.rows) (rows ∷ [])
    ∙ ap (λ n. map (λ r. piece.Rows table.schema.id r) (groups (length table.rows) table.rows) ++ piece.Rows n rows ∷ []) (sym takes.group.id_is))

still_numbered : (from : ℕ) (front : List Table) (table : Table) (rows : List Row) → AreNumbered from (front ++ table ∷ []) → AreNumbered from (front ++ with_more_rows table rows ∷ [])
still_numbered from [] table rows numbered = numbered
still_numbered from (first ∷ front) table rows numbered = (numbered.0, still_numbered (from + 1) front table rows numbered.1)

same_names : (front : List Table) (table : Table) (rows : List Row) → map name_of (front ++ table ∷ []) ≡ map name_of (front ++ with_more_rows table rows ∷ [])
same_names [] table rows = refl
same_names (first ∷ front) table rows = ap (λ l. name_of first ∷ l) (same_names front table rows)

row_grows : (db : Db) (front : List Table) (table : Table) (id : ℕ) (rows : List Row) → db.kept ≡ [] → IsValid (record db { tables = front ++ table ∷ [] }) → TakesRows id rows table
    → Grows (record db { tables = front ++ table ∷ [] }) (piece.Rows id rows) (record db { tables = front ++ with_more_rows table rows ∷ [] })
row_grows db front table id rows none valid takes =
    let more = with_more_rows table rows in
    let last : IsTableValid db.version db.keep table = (all_back (IsTableValid db.version db.keep) front (table ∷ []) valid.tables).0 in
    let before = flat_map table_pieces (front ++ table ∷ []) in
    record {
      valid = record {
        version = valid.version;
        time = valid.time;
        last_xdes = valid.last_xdes;
        keep = valid.keep;
        few = omega (arith, valid.few, length-append front (table ∷ []), length-append front (more ∷ []));
        numbered = still_numbered 1 front table rows valid.numbered;
        names = subst (EachToLater (λ a b. a ≢ b)) (same_names front table rows) valid.names;
        tables = all_append (IsTableValid db.version db.keep) front (more ∷ []) (all_front (IsTableValid db.version db.keep) front (table ∷ []) valid.tables)
            (record { schema = last.schema; rows = all_append (RowFits table.schema) table.rows rows last.rows takes.group.fit; rising = takes.rising; tracked = last.tracked }, tt);
        kept = subst (AllByRecursion (IsKeptValid (record db { tables = front ++ more ∷ [] }))) (sym none) tt;
        ordered = valid.ordered;
      };
      front =
          ap (λ l. piece.Head db.version db.time db.last_xdes db.keep ∷ l)
          (ap (λ kept. flat_map table_pieces (front ++ more ∷ []) ++ kept_pieces kept) none
          ∙ append-nil (flat_map table_pieces (front ++ more ∷ []))
          ∙ last_pieces front more
          ∙ ap (λ l. flat_map table_pieces front ++ l) (rows_push id rows table takes)
          ∙ sym (append_assoc (flat_map table_pieces front) (table_pieces table) (piece.Rows id rows ∷ []))
          ∙ ap (λ l. l ++ piece.Rows id rows ∷ []) (sym (last_pieces front table) ∙ sym (append-nil before))
          ∙ ap (λ kept. (before ++ kept_pieces kept) ++ piece.Rows id rows ∷ []) (sym none));
    }

rows_grow : (db : Db) (id : ℕ) (rows : List Row) → db.kept ≡ [] → IsValid db → EndsIn (TakesRows id rows) db.tables → Grows db (piece.Rows id rows) (record db { tables = with_rows db.tables rows })
rows_grow db id rows none valid ends =
    let taken = row_grows db ends.front ends.last id rows none (subst (λ l. IsValid (record db { tables = l })) ends.is valid) ends.holds in
    subst (λ l. Grows (record db { tables = l }) (piece.Rows id rows) (record db { tables = with_rows l rows })) (sym ends.is)
    (subst (λ l. Grows (record db { tables = ends.front ++ ends.last ∷ [] }) (piece.Rows id rows) (record db { tables = l })) (sym (with_more ends.front ends.last rows)) taken)

-- ---- a kept commit

-- whether a kept commit may stand in a database does not depend on the others
pub kept_in : (db other : Db) (kept : Kept) → db.version ≡ other.version → db.time ≡ other.time → db.last_xdes ≡ other.last_xdes → db.tables ≡ other.tables → IsKeptValid db kept → IsKeptValid other kept
kept_in db other kept version time xdes tables is = record {
  stays = subst (λ l. commit_stays l kept ≡ true) tables is.stays;
  version = omega (arith, is.version, version);
  xdes = omega (arith, is.xdes, xdes);
  time = omega (arith, is.time, time);
  changes = subst (λ l. AllByRecursion (IsChangeValid l kept.version) kept.changes) tables is.changes;
}

kept_grows : (db : Db) (kept : Kept) → IsValid db → IsKeptValid db kept → AllByRecursion (λ earlier. ComesBefore earlier kept) db.kept → Grows db (piece.Kept kept) (record db { kept = db.kept ++ kept ∷ [] })
kept_grows db kept valid is later =
    let after : Db = record db { kept = db.kept ++ kept ∷ [] } in
    let carry : (one : Kept) → IsKeptValid db one → IsKeptValid after one = (λ one fits. kept_in db after one refl refl refl refl fits) in
    record {
      valid = record {
        version = valid.version;
        time = valid.time;
        last_xdes = valid.last_xdes;
        keep = valid.keep;
        few = valid.few;
        numbered = valid.numbered;
        names = valid.names;
        tables = valid.tables;
        kept = all_append (IsKeptValid after) db.kept (kept ∷ []) (all_weaken (IsKeptValid db) (IsKeptValid after) carry db.kept valid.kept) (carry kept is, tt);
        ordered = each_append ComesBefore db.kept (kept ∷ []) valid.ordered (tt, tt) (all_weaken (λ earlier. ComesBefore earlier kept) (λ earlier. AllByRecursion (ComesBefore earlier) (kept ∷ [])) (λ earlier before. (before, tt)) db.kept later);
      };
      front =
          ap (λ l. piece.Head db.version db.time db.last_xdes db.keep ∷ l)
          (ap (λ l. flat_map table_pieces db.tables ++ l) (map-append (λ k. piece.Kept k) db.kept (kept ∷ []))
          ∙ sym (append_assoc (flat_map table_pieces db.tables) (kept_pieces db.kept) (piece.Kept kept ∷ [])));
    }

-- ---- each piece

pub grows : (db : Db) (p : Piece) → IsValid db → Follows db p → p ≢ piece.End → Grows db p (goes_on db p).db
grows db (piece.Head version time last_xdes keep) valid follows goes = absurd follows
grows db (piece.Table schema tracked) valid follows goes = table_grows db schema tracked follows.0 valid follows.1 follows.2
grows db (piece.Rows id rows) valid follows goes = rows_grow db id rows follows.0 valid (ends_in (TakesRows id rows) db.tables follows.1)
grows db (piece.Kept kept) valid follows goes = kept_grows db kept valid follows.0 follows.1
grows db piece.End valid follows goes = absurd (goes refl)
