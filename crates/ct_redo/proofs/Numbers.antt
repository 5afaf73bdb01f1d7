-- Transaction numbers of kept commits that are not above the last one.
use Rattle.std.proofs.Common.{◌≢◌, ℕ, ◌≤◌, ◌<◌, Bool, true, false, max, if◌then◌else◌, List, [], ◌∷◌, ◌++◌, filter, arith}
use Rattle.std.specs.List.{AllByRecursion}
use Rattle.ct_types.specs.declared.entry.Kept.{Kept}
use Rattle.ct_types.specs.declared.entry.Entry.{Entry}
use Rattle.ct_types.proofs.Lists.{all_append}
use Rattle.ct_model.specs.declared.db.Db.{Db}
use Rattle.ct_model.specs.declared.db.Table.{Table}
use Rattle.ct_model.specs.Apply.{apply, kept_of, trim, trim_one, commit_stays, tables_after}
use Rattle.ct_model.proofs.Members.{all_weaken, all_map, all_filter}
use Rattle.ct_redo.specs.Numbers.{AreNumbersWithin}

-- a number above the last one is new
pub above_all : (db : Db) (xdes : ℕ) → AreNumbersWithin db → db.last_xdes < xdes → AllByRecursion (λ (one : Kept). one.xdes ≢ xdes) db.kept
above_all db xdes within above = all_weaken (λ (one : Kept). one.xdes ≤ db.last_xdes) (λ (one : Kept). one.xdes ≢ xdes) (λ one less e. omega (arith, less, above, e)) db.kept within

trimmed : (last : ℕ) (tables : List Table) (kept : List Kept) → AllByRecursion (λ (one : Kept). one.xdes ≤ last) kept → AllByRecursion (λ (one : Kept). one.xdes ≤ last) (trim tables kept)
trimmed last tables kept within =
    all_map (λ (one : Kept). one.xdes ≤ last) (λ (one : Kept). one.xdes ≤ last) (trim_one tables) (λ one less. less) (filter (commit_stays tables) kept)
    (all_filter (λ (one : Kept). one.xdes ≤ last) (λ (one : Kept). one.xdes ≤ last) (commit_stays tables) (λ one stays less. less) kept within)

with_commit : (draws : Bool) (last : ℕ) (kept : List Kept) (one : Kept) → AllByRecursion (λ (one : Kept). one.xdes ≤ last) kept → one.xdes ≤ last
    → AllByRecursion (λ (one : Kept). one.xdes ≤ last) (if draws then kept ++ one ∷ [] else kept)
with_commit true last kept one within less = all_append (λ (one : Kept). one.xdes ≤ last) kept (one ∷ []) within (less, tt)
with_commit false last kept one within less = within

-- an entry that is applied leaves it so
pub within_after : (db : Db) (entry : Entry) → AreNumbersWithin db → AreNumbersWithin (apply db entry)
unfolding apply
within_after db entry within =
    let last = max db.last_xdes entry.xdes in
    let more : AllByRecursion (λ (one : Kept). one.xdes ≤ last) db.kept = all_weaken (λ (one : Kept). one.xdes ≤ db.last_xdes) (λ (one : Kept). one.xdes ≤ last) (λ one less. omega (arith, less)) db.kept within in
    trimmed last (tables_after entry.act entry.version entry.draws db.tables) (if entry.draws then db.kept ++ kept_of entry ∷ [] else db.kept)
    (with_commit entry.draws last db.kept (kept_of entry) more (omega arith))
