-- What an entry that applies leaves at a key of a table that is tracked after it with a minimum up to a version.
use Rattle.std.proofs.Common.{◌≡◌, ◌<◌, inl, inr, ℕ, Bool, true, false, cond, eqb, List, [], ◌∷◌, map, Option, None, Some, is_some, refl, sym, ap, ◌∙◌, subst}
use Rattle.std.specs.List.{AllByRecursion}
use Rattle.ct_types.specs.declared.value.Key.{Key}
use Rattle.ct_types.specs.declared.tracked.Tracked.{Tracked}
use Rattle.ct_types.specs.declared.entry.Write.{Write}
use Rattle.ct_types.specs.declared.entry.Act.{Act}
use Rattle.ct_types.specs.declared.entry.Act.TheVariants.{Commit, Define, Truncate, Enable, Disable, Database, Raise}
use Rattle.ct_model.specs.declared.db.Dated.{Dated}
use Rattle.ct_model.specs.declared.db.Db.{Db}
use Rattle.ct_model.specs.declared.db.Table.{Table}
use Rattle.ct_model.specs.Applies.{ActApplies}
use Rattle.ct_model.specs.Apply.{changes_of, tables_after, written}
use Rattle.ct_model.specs.Net.{last_of, window}
use Rattle.ct_model.specs.Tables.{row_at, table_of}
use Rattle.ct_model.specs.Valid.{AreNumbered}
use Rattle.ct_model.proofs.Found.{found_id}
use Rattle.ct_model_laws.proofs.Following.{after_writes, after_writes_schema, after_writes_tracked, fold_of_maps}
use Rattle.ct_model_laws.proofs.Moving.{FoundMoves, WritesOn, tables_move, writes_on}
use Rattle.ct_model_laws.proofs.NetKeys.{IsWithin}
use Rattle.ct_model_laws.proofs.RowPut.{Leaves, dated_here, writes_leave}

-- a table was there before, tracked within the version too, and the changes leave the key what it has now
pub record IsLeftBy (changes : List Dated) (start : ℕ) (key : Key) (before after : Table) : Type 0 where
  pub schema : after.schema ≡ before.schema
  pub tracked : IsWithin start before.tracked
  pub row : Leaves (last_of (window changes key)) (row_at before.schema before.rows key) (row_at before.schema after.rows key)

abbrev pub WasLeft : List Dated → ℕ → Key → Option Table → Table → Type 0
WasLeft changes start key old after = (before : Table) × (old ≡ Some before) × IsLeftBy changes start key before after

-- an act without changes leaves the rows of such a table
quiet : (start : ℕ) (key : Key) (old new : Option Table) (after : Table) → FoundMoves start [] old new → new ≡ Some after → IsWithin start after.tracked
    → WasLeft [] start key old after
quiet start key old new after moves is within =
    let moved = moves after is within in (
      moved.0,
      moved.1,
      record {
        schema = moved.2.schema;
        tracked = moved.2.tracked;
        row = elim (moved.2.rows key) [ inl same ↦ same | inr some ↦ elim some [ ] ];
      },
    )

-- a table that is found among changed ones was found before
found_before : (P : Table → Type 0) (f : Table → Table) → ((t : Table) → (f t).schema ≡ t.schema) → (tables : List Table) (id : ℕ) (after : Table)
    → AllByRecursion P tables → table_of (map f tables) id ≡ Some after → (before : Table) × (table_of tables id ≡ Some before) × (f before ≡ after) × P before
found_before P f same [] id after all is = cc
found_before P f same (t ∷ ts) id after all is =
    let there : cond (eqb t.schema.id id) (Some (f t)) (table_of (map f ts) id) ≡ Some after = subst (λ s. cond (eqb s.id id) (Some (f t)) (table_of (map f ts) id) ≡ Some after) (same t) is in
    let step : (b : Bool) → cond b (Some (f t)) (table_of (map f ts) id) ≡ Some after → (before : Table) × (cond b (Some t) (table_of ts id) ≡ Some before) × (f before ≡ after) × P before =
    elim [
      | true ↦ (λ e. let eq : f t ≡ after = cc in (t, refl, eq, all.0))
      | false ↦ (λ e. found_before P f same ts id after all.1 e)
    ] in
    step (eqb t.schema.id id) there

within_some : (start : ℕ) (tracked : Option Tracked) → IsWithin start tracked → is_some tracked ≡ true
within_some start None within = elim within [ ]
within_some start (Some tracked) within = refl

commit_leaves : (writes : List Write) (tables : List Table) (version start id : ℕ) (key : Key) (after : Table) → AllByRecursion (WritesOn writes) tables
    → table_of (map (after_writes writes) tables) id ≡ Some after → IsWithin start after.tracked
    → WasLeft (dated_here id version (changes_of (Commit writes))) start key (table_of tables id) after
commit_leaves writes tables version start id key after on is within =
    let found = found_before (WritesOn writes) (after_writes writes) (after_writes_schema writes) tables id after on is in
    let before : Table = found.0 in
    let tracked : IsWithin start before.tracked = subst (IsWithin start) (after_writes_tracked writes before) (subst (λ t. IsWithin start t.tracked) (sym found.2) within) in (
      before,
      found.1,
      subst (IsLeftBy (dated_here id version (changes_of (Commit writes))) start key before) found.2 (record {
        schema = after_writes_schema writes before;
        tracked = tracked;
        row = subst (λ n. Leaves (last_of (window (dated_here n version (changes_of (Commit writes))) key)) (row_at before.schema before.rows key) (row_at before.schema (after_writes writes before).rows key))
            (found_id tables id before found.1) (writes_leave writes before version key (within_some start before.tracked tracked) found.3);
      }),
    )

pub act_leaves : (db : Db) (version start id : ℕ) (draws : Bool) (act : Act) (key : Key) (after : Table) → start < version → ActApplies db version draws act
    → AreNumbered 1 db.tables → table_of (tables_after act version draws db.tables) id ≡ Some after → IsWithin start after.tracked
    → WasLeft (dated_here id version (changes_of act)) start key (table_of db.tables id) after
act_leaves db version start id draws (Commit writes) key after lt applies numbered is within =
    commit_leaves writes db.tables version start id key after (writes_on writes db.tables numbered applies.1) (ap (λ tables. table_of tables id) (sym (fold_of_maps written writes db.tables)) ∙ is) within
act_leaves db version start id draws (Define schema) key after lt applies numbered is within =
    quiet start key _ _ after (tables_move db version start id draws (Define schema) (λ drawn. lt) applies numbered) is within
act_leaves db version start id draws (Truncate of) key after lt applies numbered is within =
    quiet start key _ _ after (tables_move db version start id draws (Truncate of) (λ drawn. lt) applies numbered) is within
act_leaves db version start id draws (Enable of masks) key after lt applies numbered is within =
    quiet start key _ _ after (tables_move db version start id draws (Enable of masks) (λ drawn. lt) applies numbered) is within
act_leaves db version start id draws (Disable of) key after lt applies numbered is within =
    quiet start key _ _ after (tables_move db version start id draws (Disable of) (λ drawn. lt) applies numbered) is within
act_leaves db version start id draws (Database keep) key after lt applies numbered is within =
    quiet start key _ _ after (tables_move db version start id draws (Database keep) (λ drawn. lt) applies numbered) is within
act_leaves db version start id draws (Raise minima) key after lt applies numbered is within =
    quiet start key _ _ after (tables_move db version start id draws (Raise minima) (λ drawn. lt) applies numbered) is within
