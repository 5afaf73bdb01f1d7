-- The kept commits stay valid: those that were kept, and the one that an entry adds.
use Rattle.std.proofs.Common.{◌≡◌, ◌≤◌, ◌<◌, ◌+◌, ℕ, Bool, true, false, cond, eqb, ◌&&◌, ◌||◌, List, [], ◌∷◌, map, fold, Option, Some, refl, sym, ap, arith, eqb-true}
use Rattle.std.specs.List.{AllByRecursion}
use Rattle.std.specs.Option.{IsSomeAnd}
use Rattle.ct_types.specs.declared.entry.Keep.{Keep}
use Rattle.ct_types.specs.declared.entry.Change.{Change}
use Rattle.ct_types.specs.declared.entry.Write.{Write}
use Rattle.ct_types.specs.declared.entry.Kept.{Kept}
use Rattle.ct_types.specs.declared.entry.Act.{Act}
use Rattle.ct_types.specs.declared.entry.Act.TheVariants.{Commit, Define, Truncate, Enable, Disable, Database, Raise}
use Rattle.ct_model.specs.declared.db.Table.{Table}
use Rattle.ct_model.specs.declared.db.Db.{Db}
use Rattle.ct_model.specs.Applies.{WriteFits, WritesApply, ActApplies}
use Rattle.ct_model.specs.Apply.{written, tables_after, change_of, changes_of, change_stays, commit_stays, trim_one, trim}
use Rattle.ct_model.specs.Lists.{EachToLater}
use Rattle.ct_model.specs.Schemas.{KeyFits}
use Rattle.ct_model.specs.Tables.{table_of, is_above, has_masks}
use Rattle.ct_model.specs.Valid.{AreNumbered, IsTableValid, MaskFits, ContextFits, ChangeFits, IsChangeValid, IsKeptValid, ComesBefore}
use Rattle.ct_model.proofs.Members.{all_weaken, all_map, all_filter, each_filter, each_map}
use Rattle.ct_model_laws.proofs.Fitting.{write_key_fits, mask_fits_on, tracked_context}
use Rattle.ct_model.proofs.Found.{some_and_both, found_has, found_map}
use Rattle.ct_model_laws.proofs.Following.{ChangesCarry, numbered_map, written_schema, after_writes, after_writes_schema, after_writes_tracked, fold_of_maps}
use Rattle.ct_model_laws.proofs.Keeping.{write_keeps}

-- no table that is numbered later has an earlier id
none_earlier : (version : ℕ) (change : Change) (first : ℕ) (tables : List Table) → AreNumbered first tables → change.table < first
    → change_stays tables version change ≡ false
none_earlier version change first [] numbered lt = refl
none_earlier version change first (t ∷ ts) numbered lt =
    let step : (b : Bool) → b ≡ eqb t.schema.id change.table → (b && is_above version t.tracked || change_stays ts version change) ≡ false =
    elim [
      | true ↦ (λ e. let same : t.schema.id ≡ change.table = eqb-true _ _ (sym e) in absurd (omega (arith, numbered.0)))
      | false ↦ (λ e. none_earlier version change (first + 1) ts numbered.1 (omega arith))
    ] in
    step (eqb t.schema.id change.table) refl

-- a change that stays is of a table that is found by its id, and its version is above that table's minimum
stays_above : (version : ℕ) (change : Change) (first : ℕ) (tables : List Table) → AreNumbered first tables
    → change_stays tables version change ≡ true → IsSomeAnd (table_of tables change.table) (λ t. is_above version t.tracked ≡ true)
stays_above version change first [] numbered stays = cc
stays_above version change first (t ∷ ts) numbered stays =
    let above = is_above version t.tracked in
    let step : (b : Bool) → b ≡ eqb t.schema.id change.table → (b && above || change_stays ts version change) ≡ true → IsSomeAnd (cond b (Some t) (table_of ts change.table)) (λ t. is_above version t.tracked ≡ true) =
    elim [
      | true ↦ (λ e s. here (above) (change_stays ts version change) (none_earlier version change (first + 1) ts numbered.1 (let same : t.schema.id ≡ change.table = eqb-true _ _ (sym e) in omega (arith, numbered.0))) s)
      | false ↦ (λ e s. stays_above version change (first + 1) ts numbered.1 s)
    ] in
    step (eqb t.schema.id change.table) refl stays
  where
    here : (a later : Bool) → later ≡ false → (a || later) ≡ true → a ≡ true
    here true later none e = refl
    here false later none e = cc

-- a change that stays among the tables is valid there
abbrev pub IsValidIfStays : List Table → ℕ → Change → Type 0
IsValidIfStays tables version change = change_stays tables version change ≡ true → IsChangeValid tables version change

-- a kept commit that is valid once it is trimmed, if it stays
pub record IsCarried (db : Db) (kept : Kept) : Type 0 where
  pub version : kept.version ≤ db.version
  pub xdes : kept.xdes ≤ db.last_xdes
  pub time : kept.time ≤ db.time
  pub changes : AllByRecursion (IsValidIfStays db.tables kept.version) kept.changes

trimmed_valid : (db : Db) (kept : Kept) → commit_stays db.tables kept ≡ true → IsCarried db kept → IsKeptValid db (trim_one db.tables kept)
trimmed_valid db kept stays carried = record {
  stays = stays;
  version = carried.version;
  xdes = carried.xdes;
  time = carried.time;
  changes = all_filter _ _ (change_stays db.tables kept.version) (λ change stays valid. valid stays) kept.changes carried.changes;
}

pub trim_valid : (db : Db) (kept : List Kept) → AllByRecursion (IsCarried db) kept → AllByRecursion (IsKeptValid db) (trim db.tables kept)
trim_valid db kept all =
    all_map (λ one. (commit_stays db.tables one ≡ true) × IsCarried db one) _ (trim_one db.tables) (λ one both. trimmed_valid db one both.0 both.1) _
    (all_filter _ _ (commit_stays db.tables) (λ one stays carried. (stays, carried)) kept all)

pub trim_ordered : (tables : List Table) (kept : List Kept) → EachToLater ComesBefore kept → EachToLater ComesBefore (trim tables kept)
trim_ordered tables kept ordered =
    each_map ComesBefore ComesBefore (trim_one tables) (λ a b before. record { version = before.version; time = before.time; xdes = before.xdes }) _
    (each_filter ComesBefore (commit_stays tables) kept ordered)

-- a commit that was kept and valid goes on

pub still_carried : (old new : Db) → old.version ≤ new.version → old.last_xdes ≤ new.last_xdes → old.time ≤ new.time
    → ChangesCarry new.version old.tables new.tables → AreNumbered 1 new.tables → (kept : Kept) → IsKeptValid old kept → IsCarried new kept
still_carried old new version xdes time carry numbered kept valid =
    let before : kept.version ≤ old.version = valid.version in
    let least : kept.version ≤ new.version = omega arith in
    record {
      version = least;
      xdes = omega (arith, valid.xdes);
      time = omega (arith, valid.time);
      changes = all_weaken (IsChangeValid old.tables kept.version) (IsValidIfStays new.tables kept.version)
          (λ change fits stays. some_and_both _ _ (ChangeFits kept.version change) (λ t above fits. fits above) _ (stays_above kept.version change 1 new.tables numbered stays) (carry kept.version change least fits))
          kept.changes valid.changes;
    }

-- what a write says of a change in its table, as long as the table keeps its schema and its tracking
pub record WriteCarries (write : Write) (table : Table) : Type 0 where
  pub key : KeyFits table.schema write.key
  pub mask : MaskFits table write.op write.mask
  pub context : write.tracked ≡ true → ContextFits write.context

write_carries : (version : ℕ) (keep : Option Keep) (write : Write) (t : Table) → IsTableValid version keep t → WriteFits write t
    → WriteCarries write t
write_carries version keep write t valid fits = record {
  key = write_key_fits t.schema t.rows write.op write.key write.row valid.rows fits.present fits.row;
  mask = fits.mask;
  context = λ tracked. tracked_context write.tracked write.context tracked fits.context;
}

carries_on : (write : Write) (writes : List Write) (t : Table) → WriteCarries write t → WriteCarries write (after_writes writes t)
carries_on write writes t carries = record {
  key = rw (after_writes_schema writes t) carries.key;
  mask = mask_fits_on t (after_writes writes t) write.op write.mask (after_writes_schema writes t) (ap has_masks (after_writes_tracked writes t)) carries.mask;
  context = carries.context;
}

writes_carry : (version : ℕ) (keep : Option Keep) (writes : List Write) (tables : List Table) → AreNumbered 1 tables
    → WritesApply tables writes → AllByRecursion (IsTableValid version keep) tables
    → AllByRecursion (λ write. IsSomeAnd (table_of (fold (λ tables write. map (written write) tables) tables writes) write.table) (WriteCarries write)) writes
writes_carry version keep [] tables numbered apply all = tt
writes_carry version keep (write ∷ writes) tables numbered apply all =
    let found : IsSomeAnd (table_of tables write.table) (WriteCarries write) = found_has _ (WriteFits write) _ (λ t valid fits. write_carries version keep write t valid fits) tables write.table all apply.0 in (
      rw (fold_of_maps written (write ∷ writes) tables)
          (found_map (WriteCarries write) (WriteCarries write) (after_writes (write ∷ writes)) (after_writes_schema (write ∷ writes)) (λ t carries. carries_on write (write ∷ writes) t carries) tables write.table found),
      writes_carry version keep writes (map (written write) tables) (numbered_map (written write) (written_schema write) 1 tables numbered) apply.1 (write_keeps version keep write tables numbered apply.0 all),
    )

change_valid : (version : ℕ) (tables : List Table) (write : Write) → AreNumbered 1 tables → write.tracked ≡ true
    → IsSomeAnd (table_of tables write.table) (WriteCarries write) → IsValidIfStays tables version (change_of write)
change_valid version tables write numbered tracked found stays =
    some_and_both _ (WriteCarries write) (ChangeFits version (change_of write)) (λ t above carries. record { above = above; key = carries.key; mask = carries.mask; context = carries.context tracked }) _
    (stays_above version (change_of write) 1 tables numbered stays) found

-- the changes that an entry adds are valid where they stay
pub added_valid : (db : Db) (version : ℕ) (draws : Bool) (act : Act) → ActApplies db version draws act → AreNumbered 1 db.tables
    → AreNumbered 1 (tables_after act version draws db.tables) → AllByRecursion (IsTableValid db.version db.keep) db.tables
    → AllByRecursion (IsValidIfStays (tables_after act version draws db.tables) version) (changes_of act)
added_valid db version draws (Commit writes) applies numbered after all =
    all_map (λ write. (write.tracked ≡ true) × IsSomeAnd (table_of (tables_after (Commit writes) version draws db.tables) write.table) (WriteCarries write)) _ change_of
    (λ write both. change_valid version (tables_after (Commit writes) version draws db.tables) write after both.0 both.1) _
    (all_filter _ _ (λ write. write.tracked) (λ write tracked found. (tracked, found)) writes (writes_carry db.version db.keep writes db.tables numbered applies.1 all))
added_valid db version draws (Define schema) applies numbered after all = tt
added_valid db version draws (Truncate id) applies numbered after all = tt
added_valid db version draws (Enable id masks) applies numbered after all = tt
added_valid db version draws (Disable id) applies numbered after all = tt
added_valid db version draws (Database keep) applies numbered after all = tt
added_valid db version draws (Raise minima) applies numbered after all = tt
