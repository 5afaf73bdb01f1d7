-- The changes of a tracked table above a version from its minimum on are the same after a trim.
use Rattle.std.proofs.Common.{◌≡◌, ◌≤◌, ◌<◌, ℕ, Bool, true, false, cond, eqb-true, List, [], ◌∷◌, ◌++◌, map, filter, Some, refl, sym, ap, ◌∙◌, arith, ltb-true, nat_lt, ◌==◌}
use Rattle.std.specs.List.{AllByRecursion}
use Rattle.ct_types.specs.declared.entry.Kept.{Kept}
use Rattle.ct_model.specs.declared.db.Dated.{Dated}
use Rattle.ct_model.specs.declared.db.Table.{Table}
use Rattle.ct_model.specs.Apply.{change_stays, commit_stays, trim, trim_one}
use Rattle.ct_model.specs.Net.{changes_above, dated_in}
use Rattle.ct_model.specs.Tables.{table_of}
use Rattle.ct_model_laws.proofs.NetKeys.{IsWithin}
use Rattle.ct_model_laws.proofs.Staying.{above_within, change_found, commit_found}

filter_twice : {X : Type 0} (p q : X → Bool) → ((x : X) → p x ≡ true → q x ≡ true) → (xs : List X) → filter p (filter q xs) ≡ filter p xs
filter_twice p q passes [] = refl
filter_twice p q passes (x ∷ xs) =
    let step : (b : Bool) → b ≡ p x → filter p (filter q (x ∷ xs)) ≡ cond b (x ∷ filter p xs) (filter p xs) =
    elim [
      | true ↦ (λ e. rw (passes x (sym e), ← e) (ap (λ rest. x ∷ rest) (filter_twice p q passes xs)))
      | false ↦
          (λ e. let other : (o : Bool) → filter p (cond o (x ∷ filter q xs) (filter q xs)) ≡ filter p xs = elim [ true ↦ rw (← e) (filter_twice p q passes xs) | false ↦ filter_twice p q passes xs ] in
          other (q x))
    ] in
    step (p x) refl

one_same : (tables : List Table) (id start : ℕ) (table : Table) (kept : Kept) → table_of tables id ≡ Some table → IsWithin start table.tracked
    → dated_in id start (trim_one tables kept) ≡ dated_in id start kept
one_same tables id start table kept is within = step (nat_lt start kept.version) refl
  where
    step : (b : Bool) → b ≡ nat_lt start kept.version
        → cond b (map {B = Dated} (λ change. record { version = kept.version; change = change }) (filter (λ change. change.table == id) (filter (change_stays tables kept.version) kept.changes))) []
        ≡ cond b (map {B = Dated} (λ change. record { version = kept.version; change = change }) (filter (λ change. change.table == id) kept.changes)) []
    step true e =
        ap (λ changes. map {B = Dated} (λ change. record { version = kept.version; change = change }) changes)
        (filter_twice (λ change. change.table == id) (change_stays tables kept.version)
        (λ change same. change_found kept.version change tables (rw (eqb-true change.table id same, is) (above_within start kept.version table.tracked within (ltb-true start kept.version (sym e))))) kept.changes)
    step false e = refl

-- a commit that leaves has no change of the table above the version
gone_empty : (tables : List Table) (id start : ℕ) (table : Table) (kept : Kept) → table_of tables id ≡ Some table → IsWithin start table.tracked
    → commit_stays tables kept ≡ false → dated_in id start kept ≡ []
gone_empty tables id start table kept is within gone = step (nat_lt start kept.version) refl
  where
    step : (b : Bool) → b ≡ nat_lt start kept.version
        → cond b (map {B = Dated} (λ change. record { version = kept.version; change = change }) (filter (λ change. change.table == id) kept.changes)) [] ≡ []
    step true e =
        let stays : commit_stays tables kept ≡ true =
        commit_found kept.version id tables (rw is (above_within start kept.version table.tracked within (ltb-true start kept.version (sym e)))) in
        cc
    step false e = refl

pub trim_same : (tables : List Table) (id start : ℕ) (table : Table) (kept : List Kept) → table_of tables id ≡ Some table → IsWithin start table.tracked
    → changes_above id start (trim tables kept) ≡ changes_above id start kept
trim_same tables id start table [] is within = refl
trim_same tables id start table (one ∷ more) is within =
    let later : changes_above id start (trim tables more) ≡ changes_above id start more = trim_same tables id start table more is within in
    let step : (b : Bool) → b ≡ commit_stays tables one
    → changes_above id start (map (trim_one tables) (cond b (one ∷ filter (commit_stays tables) more) (filter (commit_stays tables) more))) ≡ dated_in id start one ++ changes_above id start more =
    elim [
      | true ↦
          (λ e. ap (λ dated. dated ++ changes_above id start (trim tables more)) (one_same tables id start table one is within)
          ∙ ap (λ rest. dated_in id start one ++ rest) later)
      | false ↦ (λ e. later ∙ ap (λ dated. dated ++ changes_above id start more) (sym (gone_empty tables id start table one is within (sym e))))
    ] in
    step (commit_stays tables one) refl

-- no change is above a version that all commits are up to
pub none_above : (id start : ℕ) (kept : List Kept) → AllByRecursion (λ one. one.version ≤ start) kept → changes_above id start kept ≡ []
none_above id start [] all = refl
none_above id start (one ∷ more) all =
    let step : (b : Bool) → b ≡ nat_lt start one.version
    → cond b (map {B = Dated} (λ change. record { version = one.version; change = change }) (filter (λ change. change.table == id) one.changes)) [] ++ changes_above id start more ≡ [] =
    elim [
      | true ↦ (λ e. absurd (let lt : start < one.version = ltb-true start one.version (sym e) in omega (arith, lt, all.0)))
      | false ↦ (λ e. none_above id start more all.1)
    ] in
    step (nat_lt start one.version) refl
