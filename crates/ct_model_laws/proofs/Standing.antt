-- Writes whose rows are of their tables, put into a valid database, leave it valid: its tables have other rows, and nothing else changes.
use Rattle.std.proofs.Common.{◌≡◌, ◌≢◌, ◌≤◌, ℕ, Bool, ◌||◌, List, [], ◌∷◌, map, Option, None, Some, option_map, refl, sym, ap, ap₂, ◌∙◌, subst}
use Rattle.std.specs.List.{AllByRecursion}
use Rattle.std.specs.Option.{IsSomeAnd}
use Rattle.std.proofs.lemmas.List.{length-map}
use Rattle.ct_types.proofs.Lists.{all_join}
use Rattle.ct_types.specs.declared.entry.Change.{Change}
use Rattle.ct_types.specs.declared.entry.Keep.{Keep}
use Rattle.ct_types.specs.declared.entry.Kept.{Kept}
use Rattle.ct_types.specs.declared.entry.Write.{Write}
use Rattle.ct_types.specs.declared.schema.Schema.{Schema}
use Rattle.ct_model.specs.declared.db.Db.{Db}
use Rattle.ct_model.specs.declared.db.Table.{Table}
use Rattle.ct_model.specs.Applies.{RowIsOf, WriteFits, WritesApply}
use Rattle.ct_model.specs.Apply.{commit_stays, written}
use Rattle.ct_model.specs.Lists.{EachToLater}
use Rattle.ct_model.specs.Schemas.{KeyFits}
use Rattle.ct_model.specs.Tables.{has_masks, is_above, table_of}
use Rattle.ct_model.specs.Valid.{ChangeFits, IsChangeValid, IsKeptValid, IsTableValid, IsValid}
use Rattle.ct_model.proofs.Found.{found_map, some_and_weaken}
use Rattle.ct_model.proofs.Members.{all_map, all_weaken}
use Rattle.ct_model_laws.proofs.Alike.{found_mapped}
use Rattle.ct_model_laws.proofs.Fitting.{mask_fits_on}
use Rattle.ct_model_laws.proofs.Following.{after_writes, after_writes_schema, after_writes_tracked, names_map, numbered_map, written_schema}
use Rattle.ct_model_laws.proofs.Keeping.{written_valid}
use Rattle.ct_model_laws.proofs.Moving.{WritesOn}

-- ---- writes whose rows are of their table

-- each of these writes that is of a table with this schema has a row of the table, or none, as its operation wants
abbrev pub StandOn : List Write → Schema → Type 0
StandOn writes schema = AllByRecursion (λ w. schema.id ≡ w.table → RowIsOf schema w.op w.key w.row) writes

pub stand_on : (writes : List Write) (t : Table) → WritesOn writes t → StandOn writes t.schema
stand_on [] t on = tt
stand_on (w ∷ writes) t on = ((λ here. (on.0 here).row), subst (StandOn writes) (written_schema w t) (stand_on writes (written w t) on.1))

after_valid : (version : ℕ) (keep : Option Keep) (writes : List Write) (t : Table) → IsTableValid version keep t → StandOn writes t.schema → IsTableValid version keep (after_writes writes t)
after_valid version keep [] t valid stand = valid
after_valid version keep (w ∷ writes) t valid stand =
    after_valid version keep writes (written w t) (written_valid version keep w t valid stand.0) (subst (StandOn writes) (sym (written_schema w t)) stand.1)

-- ---- the database

change_goes_on : (writes : List Write) (version : ℕ) (change : Change) (t : Table) → ChangeFits version change t → ChangeFits version change (after_writes writes t)
change_goes_on writes version change t fits = record {
  above = ap (is_above version) (after_writes_tracked writes t) ∙ fits.above;
  key = subst (λ (s : Schema). KeyFits s change.key) (sym (after_writes_schema writes t)) fits.key;
  mask = mask_fits_on t (after_writes writes t) change.op change.mask (after_writes_schema writes t) (ap has_masks (after_writes_tracked writes t)) fits.mask;
  context = fits.context;
}

commit_goes_on : (writes : List Write) (kept : Kept) (tables : List Table) → commit_stays (map (after_writes writes) tables) kept ≡ commit_stays tables kept
commit_goes_on writes kept [] = refl
commit_goes_on writes kept (t ∷ ts) = ap₂ (λ (a b : Bool). a || b) (ap (is_above kept.version) (after_writes_tracked writes t)) (commit_goes_on writes kept ts)

-- with the rows of the writes put into it
pub mapped_valid : (db : Db) (writes : List Write) → IsValid db → AllByRecursion (λ t. StandOn writes t.schema) db.tables → IsValid (record db { tables = map (after_writes writes) db.tables })
mapped_valid db writes valid stand =
    let f : Table → Table = after_writes writes in
    let same : (t : Table) → (f t).schema ≡ t.schema = after_writes_schema writes in
    record {
      version = valid.version;
      time = valid.time;
      last_xdes = valid.last_xdes;
      keep = valid.keep;
      few = subst (λ (n : ℕ). n ≤ 256) (sym (length-map db.tables f)) valid.few;
      numbered = numbered_map f same 1 db.tables valid.numbered;
      names = subst (EachToLater (λ a b. a ≢ b)) (sym (names_map f same db.tables)) valid.names;
      tables = all_map (λ t. IsTableValid db.version db.keep t × StandOn writes t.schema) (IsTableValid db.version db.keep) f (λ t both. after_valid db.version db.keep writes t both.0 both.1) db.tables
          (all_join _ _ _ (λ t fine on. (fine, on)) db.tables valid.tables stand);
      kept = all_weaken (IsKeptValid db) (IsKeptValid (record db { tables = map f db.tables }))
          (λ kept was. record {
            stays = commit_goes_on writes kept db.tables ∙ was.stays;
            version = was.version;
            xdes = was.xdes;
            time = was.time;
            changes = all_weaken (IsChangeValid db.tables kept.version) (IsChangeValid (map f db.tables) kept.version)
                (λ (change : Change) fits. found_map (ChangeFits kept.version change) (ChangeFits kept.version change) f same (λ t fits. change_goes_on writes kept.version change t fits) db.tables change.table fits) kept.changes was.changes;
          }) db.kept valid.kept;
      ordered = valid.ordered;
    }

-- ---- the tables of writes

unmapped_found : (f : Table → Table) (o : Option Table) → IsSomeAnd (option_map f o) (λ t. Unit {0}) → IsSomeAnd o (λ t. Unit {0})
unmapped_found f None found = absurd found
unmapped_found f (Some t) found = tt

-- writes that apply are of tables that are there
pub tables_found : (writes : List Write) (tables : List Table) → WritesApply tables writes → AllByRecursion (λ w. IsSomeAnd (table_of tables w.table) (λ t. Unit {0})) writes
tables_found [] tables apply = tt
tables_found (w ∷ writes) tables apply = (
  some_and_weaken (WriteFits w) (λ t. Unit {0}) (λ t fits. tt) (table_of tables w.table) apply.0,
  all_weaken (λ later. IsSomeAnd (table_of (map (written w) tables) later.table) (λ t. Unit {0})) _
      (λ (later : Write) found. unmapped_found (written w) (table_of tables later.table)
      (subst (λ (o : Option Table). IsSomeAnd o (λ t. Unit {0})) (found_mapped (written w) (written_schema w) tables later.table) found)) writes (tables_found writes (map (written w) tables) apply.1),
)
