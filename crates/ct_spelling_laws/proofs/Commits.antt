-- Kept commits can be spelled where they are short, and stay short under entries that are.
use Rattle.std.proofs.Common.{◌≡◌, ℕ, ◌+◌, ◌^◌, ◌≤◌, ◌<◌, List, [], ◌∷◌, ◌++◌, length, Option, arith, length-append}
use Rattle.std.specs.List.{AllByRecursion, flat_map}
use Rattle.byteorder.specs.Endian.{little_bytes}
use Rattle.ct_types.specs.declared.entry.Change.{Change}
use Rattle.ct_types.specs.declared.entry.Keep.{Keep}
use Rattle.ct_types.specs.declared.entry.Kept.{Kept}
use Rattle.ct_model.specs.declared.db.Table.{Table}
use Rattle.ct_model.specs.declared.db.Db.{Db}
use Rattle.ct_model.specs.Apply.{apply, tables_after, change_stays, commit_stays, trim_one, trim, kept_of}
use Rattle.ct_model.specs.Valid as valid
use Rattle.ct_model.specs.Valid.{AreNumbered, IsTableValid, IsChangeValid, IsKeptValid, IsValid}
use Rattle.ct_model.specs.Tables.{table_of}
use Rattle.ct_model.proofs.Found.{some_and_weaken, found_has}
use Rattle.ct_model.proofs.Members.{all_weaken, all_map, all_filter, all_added}
use Rattle.ct_types.proofs.Lists.{all_join}
use Rattle.ct_model_laws.proofs.Numbered.{found_within}
use Rattle.ct_model_laws.proofs.Validity.{stays_valid}
use Rattle.ct_codec.specs.Spellings.{spell_key, spell_context, spell_change, ChangeFits, spell_kept, KeptFits}
use Rattle.ct_spelling_laws.specs.Sizes.{IsShortCommit}
use Rattle.ct_spelling_laws.specs.Laws.{CommitsStayShort, ReplaysStayShort, FewChangesAreShort}
use Rattle.ct_spelling_laws.proofs.Lengths.{flat_most, flat_least, flat_filter}
use Rattle.ct_spelling_laws.proofs.Values.{key_spelled}
use Rattle.ct_spelling_laws.proofs.Writes.{mask_small, context_spelled, constant}
use Rattle.ct_spelling_laws.proofs.Entries.{commit_is_shorter}

-- ---- changes

-- a change can be spelled in at most 2^14 bytes
abbrev IsSpelled : Change → Type 0
IsSpelled change = ChangeFits change × (length (spell_change change) ≤ 16384)

change_spelled : (version now : ℕ) (keep : Option Keep) (change : Change) (t : Table) → IsTableValid now keep t → change.table ≤ 256 → valid.ChangeFits version change t → IsSpelled change
change_spelled version now keep change t is low fits =
    let key = key_spelled t.schema change.key is.schema fits.key in
    let context = context_spelled change.context fits.context in (
      (omega (arith, low), key.0, omega (arith, mask_small t change.op change.mask is.schema.few fits.mask), context.0),
      omega (arith, key.1, context.1, length-append (spell_key change.key) (little_bytes 8 change.mask ++ spell_context change.context)),
    )

-- what a kept commit has of a valid database
found_spelled : (db : Db) (version : ℕ) (change : Change) → IsValid db → IsChangeValid db.tables version change → IsSpelled change
found_spelled db version change is given =
    let found : change.table < 1 + length db.tables = found_within 1 db.tables change.table is.numbered (some_and_weaken _ _ (λ t fits. tt) _ given) in
    let low : change.table ≤ 256 = omega (arith, found, is.few) in
    constant (IsSpelled change) (table_of db.tables change.table)
    (found_has (IsTableValid db.version db.keep) (valid.ChangeFits version change) (λ t. IsSpelled change) (λ t here fits. change_spelled version db.version db.keep change t here low fits) db.tables change.table is.tables given)

changes_spelled : (db : Db) (kept : Kept) → IsValid db → IsKeptValid db kept → AllByRecursion IsSpelled kept.changes
changes_spelled db kept is given = all_weaken (IsChangeValid db.tables kept.version) IsSpelled (λ change one. found_spelled db kept.version change is one) kept.changes given.changes

-- ---- kept commits

length_of : (kept : Kept) → length (spell_kept kept) ≡ 28 + length (flat_map spell_change kept.changes)
length_of kept = omega arith

some_bytes : (change : Change) → 1 ≤ length (spell_change change)
some_bytes change = omega arith

-- a kept commit that is short can be spelled
pub kept_fits : (db : Db) (kept : Kept) → IsValid db → IsKeptValid db kept → IsShortCommit kept → KeptFits kept
kept_fits db kept is given short = (
  omega (arith, given.version, is.version),
  omega (arith, given.xdes, is.last_xdes),
  omega (arith, given.time, is.time),
  (omega (arith, short, length_of kept, flat_least spell_change kept.changes some_bytes), all_weaken IsSpelled ChangeFits (λ change one. one.0) kept.changes (changes_spelled db kept is given)),
)

few_short : (db : Db) (kept : Kept) → IsValid db → IsKeptValid db kept → length kept.changes < 2 ^ 18 → IsShortCommit kept
few_short db kept is given few =
    omega (arith, few, length_of kept, flat_most spell_change 16384 kept.changes (all_weaken IsSpelled _ (λ change one. one.1) kept.changes (changes_spelled db kept is given)))

pub few_changes_are_short : FewChangesAreShort
few_changes_are_short db is few = all_join (IsKeptValid db) (λ (kept : Kept). length kept.changes < 2 ^ 18) IsShortCommit (λ kept given one. few_short db kept is given one) db.kept is.kept few

-- ---- entries

trimmed_short : (tables : List Table) (kept : Kept) → IsShortCommit kept → IsShortCommit (trim_one tables kept)
trimmed_short tables kept short = omega (arith, short, length_of kept, length_of (trim_one tables kept), flat_filter spell_change (change_stays tables kept.version) kept.changes)

trim_short : (tables : List Table) (kept : List Kept) → AllByRecursion IsShortCommit kept → AllByRecursion IsShortCommit (trim tables kept)
trim_short tables kept all =
    all_map IsShortCommit IsShortCommit (trim_one tables) (λ one short. trimmed_short tables one short) _ (all_filter IsShortCommit IsShortCommit (commit_stays tables) (λ one stays short. short) kept all)

pub commits_stay_short : CommitsStayShort
unfolding apply
commits_stay_short db entry is given short all =
    trim_short (tables_after entry.act entry.version entry.draws db.tables) _ (all_added IsShortCommit entry.draws db.kept (kept_of entry) all (λ drawn. omega (arith, short, commit_is_shorter db entry is given)))

pub replays_stay_short : ReplaysStayShort
replays_stay_short db [] is in_turn short all = all
replays_stay_short db (entry ∷ entries) is in_turn short all =
    replays_stay_short (apply db entry) entries (stays_valid db entry is in_turn.0) in_turn.1 short.1 (commits_stay_short db entry is in_turn.0 short.0 all)
