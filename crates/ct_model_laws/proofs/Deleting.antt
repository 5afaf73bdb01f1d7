-- The last kept change of a key is a delete exactly where the key has no row.
use Rattle.std.proofs.Common.{◌≡◌, ◌↔◌, ◌<◌, ◌≤◌, inl, inr, ℕ, ℤ, pos, negsuc, Bool, true, false, if◌then◌else◌, List, [], ◌∷◌, ◌++◌, Option, None, Some, IfSome, IsSomeAnd, refl, sym, ap, ◌∙◌, subst, arith, lt-ltb, le_refl}
use Rattle.std.specs.List.{AllByRecursion}
use Rattle.std.specs.Ordering.{is_eq}
use Rattle.std.proofs.lemmas.Bool.{cases_lt}
use Rattle.std.proofs.lemmas.Grind.{flat_map-append}
use Rattle.std.proofs.lemmas.List.Elements.{filter-append}
use Rattle.ct_types.specs.Order.{key_cmp}
use Rattle.ct_types.specs.declared.value.Key.{Key}
use Rattle.ct_types.specs.declared.value.Row.{Row}
use Rattle.ct_types.specs.declared.tracked.Tracked.{Tracked}
use Rattle.ct_types.specs.declared.tracked.NetRow.{NetRow}
use Rattle.ct_types.specs.declared.entry.Op.TheVariants.{Delete}
use Rattle.ct_types.specs.declared.entry.Kept.{Kept}
use Rattle.ct_types.specs.declared.entry.Entry.{Entry}
use Rattle.ct_model.specs.declared.db.Dated.{Dated}
use Rattle.ct_model.specs.declared.db.Db.{Db}
use Rattle.ct_model.specs.declared.db.Table.{Table}
use Rattle.ct_model.specs.Applies.{Applies, ApplyInTurn}
use Rattle.ct_model.specs.Apply.{apply, changes_of, kept_of, no_db, replay}
use Rattle.ct_model.specs.Net.{changes_above, dated_in, floor_of, last_of, net, window}
use Rattle.ct_model.specs.Tables.{row_at, table_of}
use Rattle.ct_model.specs.Valid.{IsKeptValid, IsValid}
use Rattle.ct_model.proofs.Members.{all_weaken}
use Rattle.ct_model_laws.specs.Deletes.{IsGone}
use Rattle.ct_model_laws.specs.Tells.{IsToldBy, Tells}
use Rattle.ct_model_laws.proofs.InTurn.{no_db_valid}
use Rattle.ct_model_laws.proofs.Leaving.{WasLeft, act_leaves}
use Rattle.ct_model_laws.proofs.Moving.{changes_draw}
use Rattle.ct_model_laws.proofs.NetKeys.{IsWithin, dated_tells}
use Rattle.ct_model_laws.proofs.NetTelling.{net_tells}
use Rattle.ct_model_laws.proofs.RowPut.{Leaves, dated_here}
use Rattle.ct_model_laws.proofs.Trimming.{none_above, trim_same}
use Rattle.ct_model_laws.proofs.Validity.{stays_valid}
use Rattle.ct_model_laws.proofs.Versioning.{has_some}

-- the last change, where there is one, is a delete exactly where there is no row
abbrev IsLeft : List Dated → Option Row → Type 0
IsLeft changes row = IfSome (last_of changes) (λ last. (last.change.op ≡ Delete) ↔ (row ≡ None))

fresh_left : (o : Option Dated) (old new : Option Row) → Leaves o old new → IfSome o (λ last. (last.change.op ≡ Delete) ↔ (new ≡ None))
fresh_left None old new leaves = tt
fresh_left (Some last) old new leaves = leaves

end_left : (one : Dated) (more : List Dated) (old new : Option Row) → (one.change.op ≡ Delete) ↔ (old ≡ None) → Leaves (last_of more) old new
    → IsLeft (one ∷ more) new
end_left one [] old new left leaves = subst (λ row. (one.change.op ≡ Delete) ↔ (row ≡ None)) (sym leaves) left
end_left one (next ∷ more) old new left leaves = fresh_left (last_of (next ∷ more)) old new leaves

joined_left : (changes more : List Dated) (old new : Option Row) → IsLeft changes old → Leaves (last_of more) old new → IsLeft (changes ++ more) new
joined_left [] more old new left leaves = fresh_left (last_of more) old new leaves
joined_left (one ∷ []) more old new left leaves = end_left one more old new left leaves
joined_left (one ∷ next ∷ rest) more old new left leaves = joined_left (next ∷ rest) more old new left leaves

-- ---- one commit more

window_joined : (changes more : List Dated) (key : Key) → window (changes ++ more) key ≡ window changes key ++ window more key
window_joined changes more key = filter-append (λ dated. is_eq (key_cmp dated.change.key key)) changes more

append_none : {X : Type 0} (xs : List X) → xs ++ [] ≡ xs
append_none [] = refl
append_none (x ∷ xs) = ap (λ rest. x ∷ rest) (append_none xs)

added_left : (id start : ℕ) (key : Key) (draws : Bool) (kept : List Kept) (one : Kept) (old new : Option Row)
    → (draws ≡ false → last_of (window (dated_in id start one) key) ≡ None) → IsLeft (window (changes_above id start kept) key) old
    → Leaves (last_of (window (dated_in id start one) key)) old new
    → IsLeft (window (changes_above id start (if draws then kept ++ one ∷ [] else kept)) key) new
added_left id start key false kept one old new none left leaves =
    let same : new ≡ old = subst (λ o. Leaves o old new) (none refl) leaves in
    subst (IsLeft (window (changes_above id start kept) key)) (sym same) left
added_left id start key true kept one old new none left leaves =
    let all : changes_above id start (kept ++ one ∷ []) ≡ changes_above id start kept ++ dated_in id start one =
    flat_map-append (dated_in id start) kept (one ∷ []) ∙ ap (λ rest. changes_above id start kept ++ rest) (append_none (dated_in id start one)) in
    subst (λ changes. IsLeft changes new) (sym (ap (λ changes. window changes key) all ∙ window_joined (changes_above id start kept) (dated_in id start one) key))
    (joined_left (window (changes_above id start kept) key) (window (dated_in id start one) key) old new left leaves)

-- an entry that does not draw has no change of a key
undrawn_none : (db : Db) (entry : Entry) (id start : ℕ) (key : Key) → Applies db entry → entry.draws ≡ false
    → last_of (window (dated_in id start (kept_of entry)) key) ≡ None
undrawn_none db entry id start key applies undrawn = step (last_of (window (dated_in id start (kept_of entry)) key)) refl
  where
    step : (o : Option Dated) → last_of (window (dated_in id start (kept_of entry)) key) ≡ o → o ≡ None
    step None e = refl
    step (Some last) e =
        let has = dated_tells id start key (kept_of entry) (has_some (dated_in id start (kept_of entry)) key last e) in
        let drawn : entry.draws ≡ true = changes_draw db entry.version id key entry.draws entry.act applies.act has.1 in
        cc

-- ---- all tables

-- of each table that is tracked with a minimum up to a version, the changes above it are left at each key as the rows are
abbrev AreLeft : Db → Type 0
AreLeft db =
    (id start : ℕ) (table : Table) (key : Key) → table_of db.tables id ≡ Some table → IsWithin start table.tracked
    → IsLeft (window (changes_above id start db.kept) key) (row_at table.schema table.rows key)

-- above a version that is up to the entry's own
above_left : (db : Db) (entry : Entry) (id start : ℕ) (after : Table) (key : Key) → IsValid db → Applies db entry → AreLeft db → start < entry.version
    → table_of (apply db entry).tables id ≡ Some after → IsWithin start after.tracked
    → IsLeft (window (changes_above id start (apply db entry).kept) key) (row_at after.schema after.rows key)
unfolding apply
above_left db entry id start after key valid applies left lt is within =
    let was : WasLeft (dated_here id entry.version (changes_of entry.act)) start key (table_of db.tables id) after =
    act_leaves db entry.version start id entry.draws entry.act key after lt applies.act valid.numbered is within in
    let before : Table = was.0 in
    let by = was.2 in
    let row : Option Row = row_at before.schema after.rows key in
    let dated : dated_in id start (kept_of entry) ≡ dated_here id entry.version (changes_of entry.act) = rw (lt-ltb start entry.version lt) refl in
    let added : IsLeft (window (changes_above id start (if entry.draws then db.kept ++ kept_of entry ∷ [] else db.kept)) key) row =
    added_left id start key entry.draws db.kept (kept_of entry) (row_at before.schema before.rows key) row (undrawn_none db entry id start key applies)
    (left id start before key was.1 by.tracked)
    (subst (λ changes. Leaves (last_of (window changes key)) (row_at before.schema before.rows key) row) (sym dated) by.row) in
    subst (λ s. IsLeft (window (changes_above id start (apply db entry).kept) key) (row_at s after.rows key)) (sym by.schema)
    (subst (λ changes. IsLeft (window changes key) row) (sym (trim_same (apply db entry).tables id start after (if entry.draws then db.kept ++ kept_of entry ∷ [] else db.kept) is within)) added)

version_of : (db : Db) (entry : Entry) → (apply db entry).version ≡ entry.version
unfolding apply
version_of db entry = refl

goes_on : (db : Db) (entry : Entry) → IsValid db → Applies db entry → AreLeft db → AreLeft (apply db entry)
goes_on db entry valid applies left = λ id start after key is within.
    elim (cases_lt start entry.version) [
      | inl lt ↦ above_left db entry id start after key valid applies left lt is within
      | inr le ↦
          (let now : Db = apply db entry in
          let none : changes_above id start now.kept ≡ [] =
          none_above id start now.kept (all_weaken (IsKeptValid now) (λ one. one.version ≤ start) (λ one kept. omega (arith, kept.version, version_of db entry, le)) now.kept (stays_valid db entry valid applies).kept) in
          subst (λ changes. IsLeft (window changes key) (row_at after.schema after.rows key)) (sym none) tt)
    ]

all_go_on : (db : Db) (entries : List Entry) → IsValid db → ApplyInTurn db entries → AreLeft db → AreLeft (replay db entries)
all_go_on db [] valid in_turn left = left
all_go_on db (entry ∷ more) valid in_turn left =
    all_go_on (apply db entry) more (stays_valid db entry valid in_turn.0) in_turn.1 (goes_on db entry valid in_turn.0 left)

none_left : AreLeft no_db
none_left = λ id start table key is within. cc

-- ---- the net rows

floor_least : (min : ℕ) (last : Option ℤ) → min ≤ floor_of min last
floor_least min None = le_refl min
floor_least min (Some (pos last)) = omega arith
floor_least min (Some (negsuc n)) = le_refl min

row_gone : (table : Table) (row : NetRow) (o : Option Dated) (changes : List Dated) → IsSomeAnd o (IsToldBy changes row)
    → IfSome o (λ last. (last.change.op ≡ Delete) ↔ (row_at table.schema table.rows row.key ≡ None)) → IsGone table row
row_gone table row None changes told left = elim told [ ]
row_gone table row (Some last) changes told left = (λ e. left.0 (told.deletes.0 e), λ e. told.deletes.1 (left.1 e))

rows_gone : (db : Db) (id : ℕ) (last : Option ℤ) (table : Table) (tracked : Tracked) → AreLeft db → table_of db.tables id ≡ Some table
    → table.tracked ≡ Some tracked → AllByRecursion (IsGone table) (net db id last)
rows_gone db id last table tracked left is on =
    let start : ℕ = floor_of tracked.min last in
    let within : IsWithin start table.tracked = subst (IsWithin start) (sym on) (floor_least tracked.min last) in
    let changes : List Dated = changes_above id start db.kept in
    all_weaken (Tells changes) (IsGone table)
    (λ row tells. row_gone table row (last_of (window changes row.key)) (window changes row.key) tells (left id start table row.key is within))
    (net db id last) (net_tells db id last table tracked is on).each

untracked_none : (db : Db) (id : ℕ) (last : Option ℤ) (table : Table) → table_of db.tables id ≡ Some table → table.tracked ≡ None → net db id last ≡ []
unfolding net
untracked_none db id last table is off = rw (is, off) refl

pub deleted_have_no_row : (entries : List Entry) (id : ℕ) (last : Option ℤ) (table : Table) → ApplyInTurn no_db entries
    → table_of (replay no_db entries).tables id ≡ Some table → AllByRecursion (IsGone table) (net (replay no_db entries) id last)
deleted_have_no_row entries id last table in_turn is = step table.tracked refl
  where
    step : (o : Option Tracked) → table.tracked ≡ o → AllByRecursion (IsGone table) (net (replay no_db entries) id last)
    step None off = rw (untracked_none (replay no_db entries) id last table is off) tt
    step (Some tracked) on = rows_gone (replay no_db entries) id last table tracked (all_go_on no_db entries no_db_valid in_turn none_left) is on
