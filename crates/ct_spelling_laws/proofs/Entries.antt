-- Entries that apply can be spelled, and how long they are then.
use Rattle.std.proofs.Common.{◌≡◌, ℕ, ◌+◌, ◌*◌, ◌^◌, ◌≤◌, ◌<◌, Bool, true, false, cond, List, [], ◌∷◌, length, map, filter, flat_map, Some, None, IsSomeAnd, refl, arith, length-append}
use Rattle.std.proofs.Math.Nat.{le-max_right}
use Rattle.std.proofs.lemmas.List.{length-map}
use Rattle.std.specs.List.{AllByRecursion}
use Rattle.ct_types.specs.declared.entry.Act.{Act}
use Rattle.ct_types.specs.declared.entry.Act.TheVariants.{Commit, Define, Truncate, Enable, Disable, Database, Raise}
use Rattle.ct_types.specs.declared.entry.Entry.{Entry}
use Rattle.ct_types.specs.declared.entry.Min.{Min}
use Rattle.ct_types.specs.declared.entry.Write.{Write}
use Rattle.ct_model.specs.declared.db.Table.{Table}
use Rattle.ct_model.specs.declared.db.Db.{Db}
use Rattle.ct_model.specs.Applies.{IsRaise, ActApplies, Applies}
use Rattle.ct_model.specs.Apply.{apply, change_of, changes_of, kept_of}
use Rattle.ct_model.specs.Lists.{EachToLater}
use Rattle.ct_model.specs.Tables.{table_of}
use Rattle.ct_model.specs.Valid.{IsValid}
use Rattle.ct_model.proofs.Found.{some_and_weaken}
use Rattle.ct_model.proofs.Members.{all_weaken, all_map}
use Rattle.ct_model_laws.proofs.Numbered.{found_within}
use Rattle.ct_model_laws.proofs.Validity.{stays_valid}
use Rattle.ct_codec.specs.Spellings.{spell_write, WriteFits, spell_change, spell_min, MinFits, spell_act, ActFits, spell_entry, bare, bare_act, bare_write, spell_kept}
use Rattle.ct_spelling_laws.specs.Sizes.{count_of_writes}
use Rattle.ct_spelling_laws.specs.Laws.{EntriesFit, ShortEntriesFit, EntriesAreShort, FramesAreShort}
use Rattle.ct_spelling_laws.proofs.Definitions.{schema_spelled, keep_spelled}
use Rattle.ct_spelling_laws.proofs.Lengths.{flat_most, flat_least}
use Rattle.ct_spelling_laws.proofs.Writes as written
use Rattle.ct_spelling_laws.proofs.Writes.{writes_spelled}

-- ---- acts

-- an act can be spelled where its writes can be counted, in so many bytes, and in two more than its changes at least
record IsSpelled (act : Act) : Type 0 where
  pub fits : count_of_writes act < 2 ^ 32 → ActFits (bare_act act)
  pub short : length (spell_act (bare_act act)) ≤ 1048576 * count_of_writes act + 8843
  pub changes : 2 + length (flat_map spell_change (changes_of act)) ≤ length (spell_act (bare_act act))

-- the id of a table that is there
there : (db : Db) (id : ℕ) (P : Table → Type 0) → IsValid db → IsSomeAnd (table_of db.tables id) P → id ≤ 256
there db id P valid is =
    let low : id < 1 + length db.tables = found_within 1 db.tables id valid.numbered (some_and_weaken P _ (λ t given. tt) _ is) in
    omega (arith, low, valid.few)

-- ---- commits

change_by_change : (writes : List Write) → AllByRecursion written.IsSpelled writes
    → length (flat_map spell_change (map change_of (filter (λ write. write.tracked) writes))) ≤ length (flat_map spell_write (map bare_write writes))
change_by_change [] all = omega arith
change_by_change (write ∷ writes) all = by write.tracked all.0.change (change_by_change writes all.1)
  where
    changes : List Write → List ℕ
    changes tracked = flat_map spell_change (map change_of tracked)

    spelled : List Write → List ℕ
    spelled listed = flat_map spell_write (map bare_write listed)

    tracked : List Write
    tracked = filter (λ one. one.tracked) writes

    both : length (spelled (write ∷ writes)) ≡ length (spell_write (bare_write write)) + length (spelled writes)
    both = length-append (spell_write (bare_write write)) (spelled writes)

    by : (b : Bool) → (b ≡ true → length (spell_change (change_of write)) ≤ length (spell_write (bare_write write))) → length (changes tracked) ≤ length (spelled writes)
        → length (changes (cond b (write ∷ tracked) tracked)) ≤ length (spelled (write ∷ writes))
    by true one rest = omega (arith, one refl, rest, both, length-append (spell_change (change_of write)) (changes tracked))
    by false one rest = omega (arith, rest, both)

commit_spelled : (writes : List Write) → AllByRecursion written.IsSpelled writes → IsSpelled (Commit writes)
commit_spelled writes all =
    let many : length (map bare_write writes) ≡ length writes = length-map writes bare_write in
    let each : AllByRecursion (λ write. length (spell_write write) ≤ 1048576) (map bare_write writes) = all_map written.IsSpelled _ bare_write (λ write is. is.short) writes all in
    record {
      fits = λ few. (omega (arith, few, many), all_map written.IsSpelled WriteFits bare_write (λ write is. is.fits) writes all);
      short = omega (arith, many, flat_most spell_write 1048576 (map bare_write writes) each);
      changes = omega (arith, change_by_change writes all);
    }

-- ---- minima

-- tables that rise from a number on are few
rising_few : (first : ℕ) (minima : List Min) → first ≤ 257 → AllByRecursion (λ listed. first ≤ listed.table) minima → AllByRecursion (λ listed. listed.table ≤ 256) minima
    → EachToLater (λ a b. a.table < b.table) minima → length minima + first ≤ 257
rising_few first [] within from low rising = omega (arith, within)
rising_few first (listed ∷ minima) within from low rising =
    let rest : length minima + (listed.table + 1) ≤ 257 =
    rising_few (listed.table + 1) minima (omega (arith, low.0)) (all_weaken (λ (other : Min). listed.table < other.table) _ (λ other above. omega (arith, above)) minima rising.0) low.1 rising.1 in
    omega (arith, rest, from.0)

raise_spelled : (db : Db) (version : ℕ) (minima : List Min) → IsValid db → version ≤ 2 ^ 62 → EachToLater (λ a b. a.table < b.table) minima
    → AllByRecursion (IsRaise db.tables version) minima → IsSpelled (Raise minima)
raise_spelled db version minima valid within rising raises =
    let low : AllByRecursion (λ (listed : Min). listed.table ≤ 256) minima = all_weaken (IsRaise db.tables version) _ (λ listed is. there db listed.table _ valid is.0) minima raises in
    let few : length minima + 0 ≤ 257 = rising_few 0 minima (omega arith) (all_weaken _ _ (λ (listed : Min) is. omega arith) minima low) low rising in
    let fit : AllByRecursion MinFits minima =
    all_weaken (IsRaise db.tables version) MinFits (λ listed is. (let id = there db listed.table _ valid is.0 in omega (arith, id), omega (arith, is.1, within))) minima raises in
    let short : length (flat_map spell_min minima) ≤ 12 * length minima = flat_most spell_min 12 minima (all_weaken MinFits _ (λ listed is. omega arith) minima fit) in
    record { fits = λ none. (omega (arith, few), fit); short = omega (arith, few, short); changes = omega arith }

-- ---- each act

act_spelled : (db : Db) (version : ℕ) (draws : Bool) (act : Act) → IsValid db → version ≤ 2 ^ 62 → ActApplies db version draws act → IsSpelled act
act_spelled db version draws (Commit writes) valid within is = commit_spelled writes (writes_spelled db.version db.keep writes db.tables valid.numbered valid.few is.1 valid.tables)
act_spelled db version draws (Define schema) valid within is =
    let spelled = schema_spelled schema is.0.definable (omega (arith, is.0.id, is.0.room)) in
    record { fits = λ none. spelled.0; short = omega (arith, spelled.1); changes = omega arith }
act_spelled db version draws (Truncate id) valid within is =
    let low : id ≤ 256 = there db id _ valid is in
    record { fits = λ none. omega (arith, low); short = omega arith; changes = omega arith }
act_spelled db version draws (Enable id masks) valid within is =
    let low : id ≤ 256 = there db id _ valid is.1 in
    record { fits = λ none. omega (arith, low); short = omega arith; changes = omega arith }
act_spelled db version draws (Disable id) valid within is =
    let low : id ≤ 256 = there db id _ valid is.0 in
    record { fits = λ none. omega (arith, low); short = omega arith; changes = omega arith }
act_spelled db version draws (Database None) valid within is = record { fits = λ none. tt; short = omega arith; changes = omega arith }
act_spelled db version draws (Database (Some keep)) valid within is =
    let spelled = keep_spelled (Some keep) is.0 in
    record { fits = λ none. spelled.0; short = omega (arith, spelled.1); changes = omega (arith, spelled.1) }
act_spelled db version draws (Raise minima) valid within is = raise_spelled db version minima valid within is.1 is.2

-- ---- entries

xdes_within : (db : Db) (entry : Entry) → IsValid db → Applies db entry → entry.xdes ≤ 2 ^ 62
unfolding apply
xdes_within db entry valid is = omega (arith, (stays_valid db entry valid is).last_xdes, le-max_right db.last_xdes entry.xdes)

spelled : (db : Db) (entry : Entry) → IsValid db → Applies db entry → IsSpelled entry.act
spelled db entry valid is = act_spelled db entry.version entry.draws entry.act valid is.version_within is.act

length_of : (entry : Entry) → length (spell_entry (bare entry)) ≡ 26 + length (spell_act (bare_act entry.act))
length_of entry = omega arith

pub entries_fit : EntriesFit
entries_fit db entry valid is few = (
  omega (arith, is.version_within),
  omega (arith, xdes_within db entry valid is),
  omega (arith, is.time_within),
  (spelled db entry valid is).fits few,
)

-- each write takes bytes
writes_take : (act : Act) → count_of_writes act ≤ length (spell_act (bare_act act))
writes_take (Commit writes) = omega (arith, length-map writes bare_write, flat_least spell_write (map bare_write writes) (λ write. omega arith))
writes_take act = omega arith

pub short_entries_fit : ShortEntriesFit
short_entries_fit db entry valid is short = entries_fit db entry valid is (omega (arith, short, length_of entry, writes_take entry.act))

pub entries_are_short : EntriesAreShort
entries_are_short db entry valid is = omega (arith, length_of entry, (spelled db entry valid is).short)

pub frames_are_short : FramesAreShort
frames_are_short db entry valid is few = omega (arith, entries_are_short db entry valid is, few)

-- the commit that an entry leaves is spelled in no more bytes than the entry
pub commit_is_shorter : (db : Db) (entry : Entry) → IsValid db → Applies db entry → length (spell_kept (kept_of entry)) ≤ length (spell_entry (bare entry))
commit_is_shorter db entry valid is = omega (arith, length_of entry, (spelled db entry valid is).changes)
