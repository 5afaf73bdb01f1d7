-- The changes above a version are those of the commits above it.
use Rattle.std.proofs.Common.{◌≡◌, ℕ, nat_lt, Bool, true, false, cond, ◌==◌, List, [], ◌∷◌, ◌++◌, map, filter, if◌then◌else◌, refl, sym, ap₂}
use Rattle.ct_types.specs.declared.entry.Change.{Change}
use Rattle.ct_types.specs.declared.entry.Kept.{Kept}
use Rattle.ct_model.specs.declared.db.Dated.{Dated}
use Rattle.ct_model.specs.Net.{changes_above}
use Rattle.ct_database.specs.Steps.{is_later}

pub later_changes : (table floor : ℕ) (kept : List Kept) → changes_above table floor (filter (is_later floor) kept) ≡ changes_above table floor kept
later_changes table floor [] = refl
later_changes table floor (one ∷ more) =
    let here : List Dated = map (λ (change : Change). record { version = one.version; change = change }) (filter (λ change. change.table == table) one.changes) in
    let step : (b : Bool) → b ≡ nat_lt floor one.version
    → changes_above table floor (cond b (one ∷ filter (is_later floor) more) (filter (is_later floor) more)) ≡ (if b then map (λ (change : Change). record { version = one.version; change = change }) (filter (λ change. change.table == table) one.changes) else []) ++ changes_above table floor more =
    elim [
      | true ↦ (λ e. ap₂ (λ (b : Bool) (rest : List Dated). (if b then here else []) ++ rest) (sym e) (later_changes table floor more))
      | false ↦ (λ e. later_changes table floor more)
    ] in
    step (nat_lt floor one.version) refl
