-- The key that a definition makes is one column of the table, which is not nullable and has a free name.
use Rattle.std.proofs.Common.{◌≡◌, ◌≤◌, ℕ, zero, suc, ◌+◌, ◌-◌, Bool, true, false, not, ◌&&◌, ◌||◌, cond, if◌then◌else◌, List, [], ◌∷◌, ◌++◌, map, filter, Option, Some, refl, sym, ap, subst, ◌∙◌, arith}
use Rattle.std.specs.List.{list_any, list_all, slice_get}
use Rattle.std.specs.Option.{IsSomeAnd}
use Rattle.ct_types.specs.declared.schema.Column.{Column}
use Rattle.ct_types.specs.declared.stmt.ColumnDef.{ColumnDef}
use Rattle.ct_types.specs.declared.refusal.Refusal.TheVariants.{BadTable}
use Rattle.ct_model.specs.Names.{folded}
use Rattle.ct_model.specs.Schemas.{IsKey, IsKeyColumn, change_columns}
use Rattle.ct_model.proofs.Found.{some_and_weaken}
use Rattle.ct_bind_names.specs.Names.{same, is_among}
use Rattle.ct_bind_definition.specs.Definitions.{says_key, says_not_null, names_in, key_names, is_of_key, is_named_in, are_different, is_free_name, id_from, key_id}
use Rattle.ct_machine_laws.proofs.Columns.{IsDefined, AreDefined, made_at}
use Rattle.ct_types.proofs.AnswersKept.{Kept, err_kept, found_kept}
use Rattle.ct_machine_laws.proofs.Sameness.{both, not_and, same_folded, folded_same, not_among}

or_left : (a b : Bool) → a ≡ true → (a || b) ≡ true
or_left true b e = refl
or_left false b e = absurd cc

or_right : (a b : Bool) → b ≡ true → (a || b) ≡ true
or_right true b e = refl
or_right false b e = e

in_list : {X : Type 0} (test : X → Bool) (xs : List X) (place : ℕ) (x : X) → slice_get xs place ≡ Some x → test x ≡ true → list_any test xs ≡ true
in_list test [] place x there holds = absurd cc
in_list test (y ∷ ys) zero x there holds = let same : x ≡ y = cc in or_left (test y) (list_any test ys) (subst (λ z. test z ≡ true) same holds)
in_list test (y ∷ ys) (suc place) x there holds = or_right (test y) (list_any test ys) (in_list test ys place x there holds)

-- what is first among those that are picked is in the list
picked : {X : Type 0} (pick test : X → Bool) (xs : List X) (x : X) (rest : List X) → filter pick xs ≡ x ∷ rest → test x ≡ true → list_any test xs ≡ true
picked pick test [] x rest are holds = absurd cc
picked pick test (y ∷ ys) x rest are holds =
    let step : (b : Bool) → cond b (y ∷ filter pick ys) (filter pick ys) ≡ x ∷ rest → (test y || list_any test ys) ≡ true =
    elim [
      | true ↦ (λ e. let same : x ≡ y = cc in or_left (test y) (list_any test ys) (subst (λ z. test z ≡ true) same holds))
      | false ↦ (λ e. or_right (test y) (list_any test ys) (picked pick test ys x rest e holds))
    ] in
    step (pick y) are

-- where names differ, a definition with the name of the first one that says that it is the key says so itself
only_key : (definitions : List ColumnDef) → are_different definitions ≡ true → (place : ℕ) (found : ColumnDef) → slice_get definitions place ≡ Some found
    → (first : ColumnDef) (more : List ColumnDef) → filter says_key definitions ≡ first ∷ more → same found.name first.name ≡ true → says_key found ≡ true
unfolding are_different is_named_in
only_key [] differ place found there first more keys alike = absurd cc
only_key (d ∷ rest) differ zero found there first more keys alike =
    let here : d ≡ found = cc in
    let unlike = both (not (is_named_in d.name rest)) (are_different rest) differ in
    let step : (b : Bool) → b ≡ says_key d → cond b (d ∷ filter says_key rest) (filter says_key rest) ≡ first ∷ more → says_key found ≡ true =
    elim [
      | true ↦ (λ e k. subst (λ z. says_key z ≡ true) here (sym e))
      | false ↦ (λ e k. absurd (not_and (is_named_in d.name rest)
          (picked says_key (λ (c : ColumnDef). same d.name c.name) rest first more k (subst (λ z. same z.name first.name ≡ true) (sym here) alike)) unlike.0))
    ] in
    step (says_key d) refl keys
only_key (d ∷ rest) differ (suc place) found there first more keys alike =
    let unlike = both (not (is_named_in d.name rest)) (are_different rest) differ in
    let step : (b : Bool) → cond b (d ∷ filter says_key rest) (filter says_key rest) ≡ first ∷ more → says_key found ≡ true =
    elim [
      | true ↦ (λ k. let here : first ≡ d = cc in absurd (not_and (is_named_in d.name rest)
          (in_list (λ (c : ColumnDef). same d.name c.name) rest place found there (folded_same d.name found.name (sym (same_folded found.name d.name (subst (λ z. same found.name z.name ≡ true) here alike))))) unlike.0))
      | false ↦ (λ k. only_key rest unlike.1 place found there first more k alike)
    ] in
    step (says_key d) keys

-- ---- the column that the key names

pub record IsAt (wanted : List ℕ) (id : ℕ) (definitions : List ColumnDef) (own : ℕ) : Type 0 where
  pub place : ℕ
  pub found : ColumnDef
  pub own_is : own ≡ id + place
  pub there : slice_get definitions place ≡ Some found
  pub named : same found.name wanted ≡ true

is_at : (wanted : List ℕ) (id : ℕ) (definitions : List ColumnDef) (own : ℕ) → id_from wanted id definitions ≡ Some own → IsAt wanted id definitions own
unfolding id_from
is_at wanted id [] own e = absurd cc
is_at wanted id (d ∷ more) own e =
    let step : (b : Bool) → b ≡ same d.name wanted → (if b then Some id else id_from wanted (id + 1) more) ≡ Some own → IsAt wanted id (d ∷ more) own =
    elim [
      | true ↦ (λ h k. let same_id : id ≡ own = cc in record { place = 0; found = d; own_is = omega arith; there = refl; named = sym h })
      | false ↦ (λ h k. let it = is_at wanted (id + 1) more own k in record { place = suc it.place; found = it.found; own_is = omega (arith, it.own_is); there = it.there; named = it.named })
    ] in
    step (same d.name wanted) refl e

-- the names of a key are one, and it is found
pub record HasKey (names : List (List ℕ)) (definitions : List ColumnDef) (own : ℕ) : Type 0 where
  pub wanted : List ℕ
  pub names_are : names ≡ wanted ∷ []
  pub at : IsAt wanted 1 definitions own

pub key_kept : (definitions : List ColumnDef) (names : List (List ℕ)) → Kept (HasKey names definitions) (key_id definitions names)
unfolding key_id
key_kept definitions [] = err_kept (HasKey [] definitions) (BadTable 5)
key_kept definitions (name ∷ []) =
    found_kept (HasKey (name ∷ []) definitions) (id_from name 1 definitions) (BadTable 5) (λ own e. record { wanted = name; names_are = refl; at = is_at name 1 definitions own e })
key_kept definitions (name ∷ other ∷ more) = err_kept (HasKey (name ∷ other ∷ more) definitions) (BadTable 5)

-- the column that is found is one of the key
of_key_by : (definitions : List ColumnDef) (names : List (List ℕ)) (wanted : List ℕ) (place : ℕ) (found : ColumnDef) (own : List ColumnDef)
    → are_different definitions ≡ true → own ≡ filter says_key definitions → map (λ definition. definition.name) own ++ names ≡ wanted ∷ []
    → slice_get definitions place ≡ Some found → same found.name wanted ≡ true → (says_key found || list_any (same found.name) names) ≡ true
of_key_by definitions names wanted place found [] differ own_is are there named =
    or_right (says_key found) (list_any (same found.name) names) (subst (λ ns. list_any (same found.name) ns ≡ true) (sym are) (or_left (same found.name wanted) false named))
of_key_by definitions names wanted place found (first ∷ more) differ own_is are there named =
    let name_is : wanted ≡ first.name = cc in
    or_left (says_key found) (list_any (same found.name) names) (only_key definitions differ place found there first more (sym own_is) (subst (λ n. same found.name n ≡ true) name_is named))

of_key : (definitions : List ColumnDef) (key : Option (List (List ℕ))) (wanted : List ℕ) (place : ℕ) (found : ColumnDef)
    → are_different definitions ≡ true → key_names definitions key ≡ wanted ∷ [] → slice_get definitions place ≡ Some found → same found.name wanted ≡ true
    → is_of_key key found ≡ true
unfolding key_names is_of_key is_among
of_key definitions key wanted place found differ are there named =
    of_key_by definitions (names_in key) wanted place found (filter says_key definitions) differ refl are there named

not_null : (a b : Bool) → b ≡ true → (not a && not b) ≡ false
not_null true b e = refl
not_null false true e = refl
not_null false false e = absurd cc

key_column : (key : Option (List (List ℕ))) (wanted : List ℕ) (found : ColumnDef) (column : Column) → is_of_key key found ≡ true → folded found.name ≡ folded wanted
    → is_free_name wanted ≡ true → IsDefined key found column → IsKeyColumn column
unfolding is_free_name
key_column key wanted found column own named free is =
    (is.nullable ∙ not_null (says_not_null found) (is_of_key key found) own, not_among wanted column.name change_columns (ap folded is.name ∙ named) free)

pub is_key : (definitions : List ColumnDef) (key : Option (List (List ℕ))) (columns : List Column) (own : ℕ)
    → are_different definitions ≡ true → list_all is_free_name (key_names definitions key) ≡ true → AreDefined key definitions columns
    → HasKey (key_names definitions key) definitions own → IsKey columns (own ∷ [])
is_key definitions key columns own differ free are has =
    let at = has.at in
    let own_is = at.own_is in
    let free_one = both (is_free_name has.wanted) true (subst (λ ns. list_all is_free_name ns ≡ true) has.names_are free) in
    let place_is : at.place ≡ own - 1 = omega (arith, own_is) in
    let within : 1 ≤ own = omega (arith, own_is) in (
      within,
      subst (λ n. IsSomeAnd (slice_get columns n) IsKeyColumn) place_is
          (some_and_weaken (IsDefined key at.found) IsKeyColumn
          (λ column is. key_column key has.wanted at.found column (of_key definitions key has.wanted at.place at.found differ has.names_are at.there at.named) (same_folded at.found.name has.wanted at.named) free_one.0 is)
          (slice_get columns at.place) (made_at key definitions columns are at.place at.found at.there)),
    )
