-- The changes of a tracked table above its minimum stay where an entry applies.
use Rattle.std.proofs.Common.{◌≡◌, ◌<◌, inl, ℕ, Bool, true, false, cond, eqb, ◌&&◌, ◌||◌, if◌then◌else◌, List, [], ◌∷◌, ◌++◌, Option, None, Some, IsSomeAnd, refl, lt-ltb, arith}
use Rattle.std.specs.List.{list_any}
use Rattle.ct_types.specs.declared.value.Key.{Key}
use Rattle.ct_types.specs.declared.tracked.Tracked.{Tracked}
use Rattle.ct_types.specs.declared.entry.Change.{Change}
use Rattle.ct_types.specs.declared.entry.Kept.{Kept}
use Rattle.ct_model.specs.declared.db.Table.{Table}
use Rattle.ct_model.specs.Apply.{change_stays, commit_stays, trim_one, trim}
use Rattle.ct_model.specs.Tables.{table_of, is_above}
use Rattle.ct_model_laws.proofs.NetKeys.{IsOf, HasAbove, IsWithin}
use Rattle.ct_model_laws.proofs.Somewhere.{Somewhere, some_append_left, some_append_right, some_map, some_filter}

pub above_within : (noted version : ℕ) (tracked : Option Tracked) → IsWithin noted tracked → noted < version → is_above version tracked ≡ true
above_within noted version None within lt = elim within [ ]
above_within noted version (Some tracked) within lt = lt-ltb tracked.min version (omega (arith, within))

or_true : (b : Bool) → (b || true) ≡ true
or_true true = refl
or_true false = refl

-- a commit stays if some table is found whose minimum is below its version
pub commit_found : (version id : ℕ) (tables : List Table) → IsSomeAnd (table_of tables id) (λ t. is_above version t.tracked ≡ true)
    → list_any (λ t. is_above version t.tracked) tables ≡ true
commit_found version id [] found = elim found [ ]
commit_found version id (t ∷ ts) found =
    let step : (b : Bool) → IsSomeAnd (cond b (Some t) (table_of ts id)) (λ t. is_above version t.tracked ≡ true) → list_any (λ t. is_above version t.tracked) (t ∷ ts) ≡ true =
    elim [ true ↦ (λ a. rw a refl) | false ↦ (λ a. rw (commit_found version id ts a) (or_true (is_above version t.tracked))) ] in
    step (eqb t.schema.id id) found

-- a change stays if its table is found with a minimum below its version
pub change_found : (version : ℕ) (change : Change) (tables : List Table)
    → IsSomeAnd (table_of tables change.table) (λ t. is_above version t.tracked ≡ true) → change_stays tables version change ≡ true
change_found version change [] found = elim found [ ]
change_found version change (t ∷ ts) found =
    let step : (b : Bool) → IsSomeAnd (cond b (Some t) (table_of ts change.table)) (λ t. is_above version t.tracked ≡ true) → (b && is_above version t.tracked || change_stays ts version change) ≡ true =
    elim [ true ↦ (λ a. rw a refl) | false ↦ (λ a. change_found version change ts a) ] in
    step (eqb t.schema.id change.table) found

commit_has : (tables : List Table) (id noted : ℕ) (key : Key) (table : Table) (kept : Kept) → table_of tables id ≡ Some table
    → IsWithin noted table.tracked → HasAbove id noted key kept → HasAbove id noted key (trim_one tables kept)
commit_has tables id noted key table kept is within has = (
  has.0,
  some_filter (IsOf id key) (change_stays tables kept.version)
      (λ change of. change_found kept.version change tables (rw (of.0, is) (above_within noted kept.version table.tracked within has.0))) kept.changes has.1,
)

-- the changes of a table above a version up from its minimum stay
pub trim_has : (tables : List Table) (id noted : ℕ) (key : Key) (table : Table) (kept : List Kept) → table_of tables id ≡ Some table
    → IsWithin noted table.tracked → Somewhere (HasAbove id noted key) kept → Somewhere (HasAbove id noted key) (trim tables kept)
trim_has tables id noted key table kept is within some =
    some_map (HasAbove id noted key) (HasAbove id noted key) (trim_one tables) (λ one has. commit_has tables id noted key table one is within has) _
    (some_filter (HasAbove id noted key) (commit_stays tables) (λ one has. commit_found one.version id tables (rw is (above_within noted one.version table.tracked within has.0))) kept some)

-- a commit that is added hides none of the earlier ones

pub added_keeps : {X : Type 0} (P : X → Type 0) (adds : Bool) (xs : List X) (x : X) → Somewhere P xs
    → Somewhere P (if adds then xs ++ x ∷ [] else xs)
added_keeps P true xs x some = some_append_left P xs (x ∷ []) some
added_keeps P false xs x some = some

pub added_has : {X : Type 0} (P : X → Type 0) (adds : Bool) (xs : List X) (x : X) → adds ≡ true → P x
    → Somewhere P (if adds then xs ++ x ∷ [] else xs)
added_has P true xs x e has = some_append_right P xs (x ∷ []) (inl has)
added_has P false xs x e has = cc
