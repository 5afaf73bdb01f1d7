-- A valid database can be stored, and what is stored of its commits counts as they do.
use Rattle.std.proofs.Common.{◌≡◌, ℕ, ◌-◌, ◌<◌, ◌≤◌, Bool, true, false, cond, ◌==◌, ◌&&◌, ◌||◌, List, [], ◌∷◌, ◌++◌, map, filter, Option, None, Some, refl, sym, ap, ap₂, ◌∙◌, arith, tests}
use Rattle.std.specs.List.{AllByRecursion}
use Rattle.std.specs.Option.{IsSomeAnd}
use Rattle.ct_types.specs.declared.tracked.Tracked.{Tracked}
use Rattle.ct_types.specs.declared.entry.Change.{Change}
use Rattle.ct_types.specs.declared.entry.Kept.{Kept}
use Rattle.ct_types.proofs.Lists.{all_append, all_front, all_back}
use Rattle.ct_model.specs.declared.db.Table.{Table}
use Rattle.ct_model.specs.declared.db.Db.{Db}
use Rattle.ct_model.specs.Apply.{change_stays, commit_stays, trim, trim_one}
use Rattle.ct_model.specs.Lists.{EachToLater}
use Rattle.ct_model.specs.Schemas.{RowFits}
use Rattle.ct_model.specs.Tables.{table_of, is_above}
use Rattle.ct_model.specs.Valid.{ChangeFits, ComesBefore, IsChangeValid, IsKeptValid, IsTableValid, IsValid}
use Rattle.ct_model.proofs.Members.{all_weaken}
use Rattle.ct_ptree.proofs.Lists.{filter_all}
use Rattle.ct_source.specs.Plain.{IsKeyed}
use Rattle.ct_source.specs.Rows.{IsWhole}
use Rattle.ct_database.specs.Steps.{AreBehind, AreNewest, AreWithin, Rise, is_later}
use Rattle.ct_database.proofs.Placed.{each_before}
use Rattle.ct_database.proofs.Storing.{key_of_columns, same_count}
use Rattle.ct_database.proofs.Trimmed.{filter_narrower, trim_joined}

-- ---- tables

keyed_of : (db : Db) (table : Table) → IsTableValid db.version db.keep table → IsKeyed table
keyed_of db table valid = record {
  columns = key_of_columns table.schema.columns table.schema.key valid.schema.key;
  whole = all_weaken (RowFits table.schema) (IsWhole table.schema) (λ row fits. same_count table.schema.columns row.0 fits) table.rows valid.rows;
  rising = valid.rising;
}

pub valid_keyed : (db : Db) → IsValid db → AllByRecursion IsKeyed db.tables
valid_keyed db valid = all_weaken (IsTableValid db.version db.keep) IsKeyed (keyed_of db) db.tables valid.tables

-- ---- kept commits

above_counts : (version : ℕ) (tracked : Option Tracked) → is_above version tracked ≡ true → 0 < version
above_counts version None e = absurd cc
above_counts version (Some tracked) e = search (tests, arith)

-- a commit that some table needs has a version from 1 on
stays_counts : (tables : List Table) (one : Kept) → commit_stays tables one ≡ true → 0 < one.version
stays_counts [] one e = absurd cc
stays_counts (table ∷ tables) one e =
    let step : (b : Bool) → b ≡ is_above one.version table.tracked → (b || commit_stays tables one) ≡ true → 0 < one.version =
    elim [ true ↦ (λ is stays. above_counts one.version table.tracked (sym is)) | false ↦ (λ is stays. stays_counts tables one stays) ] in
    step (is_above one.version table.tracked) refl e

pub valid_count : (db : Db) → IsValid db → AreBehind 0 db.kept
valid_count db valid = all_weaken (IsKeptValid db) (λ (one : Kept). 0 < one.version) (λ one kept. stays_counts db.tables one kept.stays) db.kept valid.kept

pub valid_within : (db : Db) → IsValid db → AreWithin db.version db.kept
valid_within db valid = all_weaken (IsKeptValid db) (λ (one : Kept). one.version ≤ db.version) (λ one kept. kept.version) db.kept valid.kept

rise_of : (kept : List Kept) → EachToLater ComesBefore kept → Rise kept
rise_of [] ordered = tt
rise_of (one ∷ kept) ordered = (all_weaken (ComesBefore one) (λ (later : Kept). one.version < later.version) (λ later before. before.version) kept ordered.0, rise_of kept ordered.1)

pub valid_rises : (db : Db) → IsValid db → Rise db.kept
valid_rises db valid = rise_of db.kept valid.ordered

-- ---- a valid database is trimmed

change_left : (tables : List Table) (version : ℕ) (change : Change) → IsChangeValid tables version change → change_stays tables version change ≡ true
change_left [] version change valid = absurd valid
change_left (table ∷ tables) version change valid =
    let step : (b : Bool) → IsSomeAnd (cond b (Some table) (table_of tables change.table)) (ChangeFits version change)
    → ((b && is_above version table.tracked) || change_stays tables version change) ≡ true =
    elim [ true ↦ (λ fits. rw fits.above refl) | false ↦ (λ fits. change_left tables version change fits) ] in
    step (table.schema.id == change.table) valid

one_left : (db : Db) (one : Kept) → IsKeptValid db one → trim_one db.tables one ≡ one
one_left db one valid =
    ap (λ (changes : List Change). record one { changes = changes })
    (filter_all (change_stays db.tables one.version) one.changes
    (all_weaken (IsChangeValid db.tables one.version) (λ change. change_stays db.tables one.version change ≡ true) (change_left db.tables one.version) one.changes valid.changes))

all_left : (db : Db) (kept : List Kept) → AllByRecursion (IsKeptValid db) kept → map (trim_one db.tables) kept ≡ kept
all_left db [] valid = refl
all_left db (one ∷ kept) valid = ap₂ (λ (first : Kept) (rest : List Kept). first ∷ rest) (one_left db one valid.0) (all_left db kept valid.1)

pub valid_trimmed : (db : Db) → IsValid db → trim db.tables db.kept ≡ db.kept
valid_trimmed db valid =
    ap (map (trim_one db.tables))
    (filter_all (commit_stays db.tables) db.kept (all_weaken (IsKeptValid db) (λ one. commit_stays db.tables one ≡ true) (λ one kept. kept.stays) db.kept valid.kept))
    ∙ all_left db db.kept valid.kept

-- ---- commits that are added one by one

-- what is stored of commits is within what they are
abbrev pub StaysWithin : List Kept → List Kept → Type 0
StaysWithin added stored = (version : ℕ) → AreWithin version added → AreWithin version stored

pub still_newest : (added stored : List Kept) (one : Kept) → 0 < one.version → StaysWithin added stored → AreNewest added (one ∷ []) → AreNewest stored (one ∷ [])
still_newest added stored one counts within above =
    let low : AreWithin (one.version - 1) added = all_weaken (λ (old : Kept). old.version < one.version) (λ (old : Kept). old.version ≤ one.version - 1) (λ old less. omega arith) added above.0 in (
      all_weaken (λ (old : Kept). old.version ≤ one.version - 1) (λ (old : Kept). old.version < one.version) (λ old le. omega (arith, counts)) stored (within (one.version - 1) low),
      tt,
    )

pub next_newest : (added : List Kept) (one : Kept) (rest : List Kept) → Rise (added ++ one ∷ rest) → AreNewest added (one ∷ [])
next_newest added one rest rising = (each_before (λ (old later : Kept). old.version < later.version) added one rest rising, tt)

pub within_more : (added stored : List Kept) (one : Kept) → StaysWithin added stored → StaysWithin (added ++ one ∷ []) (stored ++ one ∷ [])
within_more added stored one within version all =
    all_append (λ (old : Kept). old.version ≤ version) stored (one ∷ []) (within version (all_front (λ (old : Kept). old.version ≤ version) added (one ∷ []) all))
    (all_back (λ (old : Kept). old.version ≤ version) added (one ∷ []) all)

pub counted_more : (tables : List Table) (added stored : List Kept) (one : Kept) → trim tables stored ≡ trim tables added
    → trim tables (stored ++ one ∷ []) ≡ trim tables (added ++ one ∷ [])
counted_more tables added stored one same =
    trim_joined tables stored (one ∷ []) ∙ ap (λ (front : List Kept). front ++ trim tables (one ∷ [])) same ∙ sym (trim_joined tables added (one ∷ []))

-- ---- commits from version 1 on

-- no table needs another
pub trim_counted : (tables : List Table) (kept : List Kept) → trim tables (filter (is_later 0) kept) ≡ trim tables kept
trim_counted tables kept =
    ap (map (trim_one tables))
    (filter_narrower (is_later 0) (commit_stays tables) (λ one stays. let counts : 0 < one.version = stays_counts tables one stays in search (tests, arith)) kept)
