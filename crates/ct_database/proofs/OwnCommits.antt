-- The commits that have a change of a table tell its changes, and the last change of each of its keys.
use Rattle.std.proofs.Common.{◌≡◌, ℕ, nat_lt, Bool, true, false, not, cond, ◌==◌, List, [], ◌∷◌, ◌++◌, map, filter, Option, None, Some, if◌then◌else◌, refl, sym, ap, ap₂, ◌∙◌}
use Rattle.std.specs.List.{list_any}
use Rattle.std.proofs.lemmas.List.Concat.{flat_map-append}
use Rattle.ct_types.proofs.Lists.{none_passes}
use Rattle.ct_types.specs.declared.value.Key.{Key}
use Rattle.ct_types.specs.declared.entry.Change.{Change}
use Rattle.ct_types.specs.declared.entry.Kept.{Kept}
use Rattle.ct_model.specs.declared.db.Dated.{Dated}
use Rattle.ct_model.specs.Net.{changes_above, dated_in, last_of, window}
use Rattle.ct_ptree.proofs.Lists.{filter_none}
use Rattle.ct_database.specs.Commits.{has_change_of, commits_on}
use Rattle.ct_database.specs.Steps.{dated, is_later, last_here, last_in, or_first}
use Rattle.ct_database.proofs.LaterChanges.{later_changes}

pub none_kept : {X : Type 0} (test : X → Bool) (xs : List X) → false ≡ list_any test xs → filter test xs ≡ []
none_kept test xs none = filter_none test xs (none_passes test xs (sym (ap not none)))

none_dated : (table floor : ℕ) (one : Kept) → false ≡ has_change_of table one → dated_in table floor one ≡ []
none_dated table floor one none =
    let nothing : List Dated = [] in
    let both : (b : Bool) → (if b then nothing else nothing) ≡ nothing = elim [ true ↦ refl | false ↦ refl ] in
    ap (λ (own : List Change). if nat_lt floor one.version then map (dated one.version) own else []) (none_kept (λ change. change.table == table) one.changes none) ∙ both (nat_lt floor one.version)

pub changes_of_own : (table floor : ℕ) (kept : List Kept) → changes_above table floor (commits_on table kept) ≡ changes_above table floor kept
changes_of_own table floor [] = refl
changes_of_own table floor (one ∷ kept) =
    let more : changes_above table floor (commits_on table kept) ≡ changes_above table floor kept = changes_of_own table floor kept in
    let step : (b : Bool) → b ≡ has_change_of table one → changes_above table floor (cond b (one ∷ commits_on table kept) (commits_on table kept)) ≡ dated_in table floor one ++ changes_above table floor kept =
    elim [
      | true ↦ (λ e. ap (λ (rest : List Dated). dated_in table floor one ++ rest) more)
      | false ↦ (λ e. more ∙ sym (ap (λ (own : List Dated). own ++ changes_above table floor kept) (none_dated table floor one e)))
    ] in
    step (has_change_of table one) refl

-- commits whose own ones are those above a version, and a newest one, tell the changes above the version
pub since_changes : (table floor : ℕ) (made older newest : List Kept) → commits_on table made ≡ commits_on table (filter (is_later floor) older)
    → changes_above table floor (made ++ filter (is_later floor) newest) ≡ changes_above table floor (older ++ newest)
since_changes table floor made older newest own =
    let front : changes_above table floor made ≡ changes_above table floor older =
    sym (changes_of_own table floor made) ∙ ap (changes_above table floor) own ∙ changes_of_own table floor (filter (is_later floor) older) ∙ later_changes table floor older in
    flat_map-append (dated_in table floor) made (filter (is_later floor) newest)
    ∙ ap₂ (λ (xs ys : List Dated). xs ++ ys) front (later_changes table floor newest)
    ∙ sym (flat_map-append (dated_in table floor) older newest)

-- ---- the last change of a key

none_first : (last : Option Dated) → or_first None last ≡ last
none_first None = refl
none_first (Some last) = refl

last_of_own : (table : ℕ) (key : Key) (kept : List Kept) → last_in table key (commits_on table kept) ≡ last_in table key kept
last_of_own table key [] = refl
last_of_own table key (one ∷ kept) =
    let more : last_in table key (commits_on table kept) ≡ last_in table key kept = last_of_own table key kept in
    let step : (b : Bool) → b ≡ has_change_of table one
    → last_in table key (cond b (one ∷ commits_on table kept) (commits_on table kept)) ≡ or_first (last_here table one.version key one.changes) (last_in table key kept) =
    elim [
      | true ↦ (λ e. ap (or_first (last_here table one.version key one.changes)) more)
      | false ↦
          (λ e. let none : last_here table one.version key one.changes ≡ None =
          ap (λ (own : List Change). last_of (window (map (dated one.version) own) key)) (none_kept (λ change. change.table == table) one.changes e) in
          more ∙ sym (none_first (last_in table key kept)) ∙ ap (λ (here : Option Dated). or_first here (last_in table key kept)) (sym none))
    ] in
    step (has_change_of table one) refl

pub last_on : (table : ℕ) (key : Key) (made kept : List Kept) → commits_on table made ≡ commits_on table kept → last_in table key made ≡ last_in table key kept
last_on table key made kept own = sym (last_of_own table key made) ∙ ap (last_in table key) own ∙ last_of_own table key kept
