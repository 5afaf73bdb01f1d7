-- The columns that a definition makes.
use Rattle.std.proofs.Common.{◌≡◌, ◌≢◌, ◌≤◌, ℕ, zero, suc, true, not, ◌&&◌, nat_le, List, [], ◌∷◌, length, map, Option, Some, refl, sym, ap, subst, leb-true}
use Rattle.std.specs.List.{AllByRecursion, slice_get}
use Rattle.std.specs.Option.{IsSomeAnd}
use Rattle.std.proofs.lemmas.Option.{cond_some}
use Rattle.ct_types.specs.declared.schema.ColType.TheVariants.{Int, BigInt, NVarChar, VarBinary}
use Rattle.ct_types.specs.declared.schema.Column.{Column}
use Rattle.ct_types.specs.declared.stmt.ColumnDef.{ColumnDef}
use Rattle.ct_types.specs.declared.stmt.TypeName.{TypeName}
use Rattle.ct_types.specs.declared.stmt.TypeName.TheVariants as name
use Rattle.ct_types.specs.declared.refusal.Refusal.TheVariants.{BadTable}
use Rattle.ct_types.specs.Answers.{each}
use Rattle.ct_model.specs.Lists.{EachToLater}
use Rattle.ct_model.specs.Names.{folded, IsName}
use Rattle.ct_model.specs.Schemas.{IsType, IsColumn}
use Rattle.ct_model.proofs.Members.{all_map}
use Rattle.ct_bind_names.specs.Names.{same}
use Rattle.ct_bind_names.specs.Numbers.{within, in_range, number_of, column_type}
use Rattle.ct_bind_definition.specs.Definitions.{says_not_null, is_of_key, defined_column, is_named_in, are_different}
use Rattle.ct_types.proofs.AnswersKept.{Kept, ok_kept, then_kept, found_kept}
use Rattle.ct_machine_laws.proofs.Sameness.{both, none_of, unlike}

in_its_range : (least most n at : ℕ) → in_range least most n ≡ Some at → (least ≤ at) × (at ≤ most)
in_its_range least most n at e =
    let it = cond_some (nat_le least n && nat_le n most) n at e in
    let tests = both (nat_le least n) (nat_le n most) it.0 in
    subst (λ k. (least ≤ k) × (k ≤ most)) it.1 (leb-true least n tests.0, leb-true n most tests.1)

pub within_range : (least most : ℕ) (digits : List ℕ) (n : ℕ) → within least most digits ≡ Some n → (least ≤ n) × (n ≤ most)
unfolding within
within_range least most digits n e = in_its_range least most (number_of digits) n e

pub type_kept : (type : TypeName) → Kept IsType (column_type type)
unfolding column_type
type_kept name.Int = ok_kept IsType Int tt
type_kept name.BigInt = ok_kept IsType BigInt tt
type_kept (name.NVarChar digits) =
    then_kept (λ n. (1 ≤ n) × (n ≤ 4000)) IsType _ _ (found_kept (λ n. (1 ≤ n) × (n ≤ 4000)) (within 1 4000 digits) (BadTable 4) (within_range 1 4000 digits)) (λ n fits. ok_kept IsType (NVarChar n) fits)
type_kept (name.VarBinary digits) =
    then_kept (λ n. (1 ≤ n) × (n ≤ 8000)) IsType _ _ (found_kept (λ n. (1 ≤ n) × (n ≤ 8000)) (within 1 8000 digits) (BadTable 4) (within_range 1 8000 digits)) (λ n fits. ok_kept IsType (VarBinary n) fits)

-- a column is as it was defined
pub record IsDefined (key : Option (List (List ℕ))) (definition : ColumnDef) (column : Column) : Type 0 where
  pub name : column.name ≡ definition.name
  pub type : IsType column.kind
  pub nullable : column.nullable ≡ not (says_not_null definition) && not (is_of_key key definition)

abbrev pub AreDefined : Option (List (List ℕ)) → List ColumnDef → List Column → Type 0
AreDefined key [] [] = Unit {0}
AreDefined key (definition ∷ definitions) (column ∷ columns) = IsDefined key definition column × AreDefined key definitions columns
AreDefined key definitions columns = ⊥

column_kept : (key : Option (List (List ℕ))) (definition : ColumnDef) → Kept (IsDefined key definition) (defined_column key definition)
unfolding defined_column
column_kept key definition =
    then_kept IsType (IsDefined key definition) (column_type definition.kind) _ (type_kept definition.kind)
    (λ kind is. ok_kept (IsDefined key definition) _ (record { name = refl; type = is; nullable = refl }))

pub columns_kept : (key : Option (List (List ℕ))) (definitions : List ColumnDef) → Kept (AreDefined key definitions) (each (defined_column key) definitions)
columns_kept key [] = ok_kept (AreDefined key []) [] tt
columns_kept key (definition ∷ more) =
    then_kept (IsDefined key definition) (AreDefined key (definition ∷ more)) (defined_column key definition) _ (column_kept key definition)
    (λ column here. then_kept (AreDefined key more) (AreDefined key (definition ∷ more)) (each (defined_column key) more) _ (columns_kept key more)
    (λ columns rest. ok_kept (AreDefined key (definition ∷ more)) (column ∷ columns) (here, rest)))

-- ---- what holds of them

pub as_many : (key : Option (List (List ℕ))) (definitions : List ColumnDef) (columns : List Column) → AreDefined key definitions columns → length columns ≡ length definitions
as_many key [] [] are = refl
as_many key [] (column ∷ columns) are = absurd are
as_many key (definition ∷ definitions) [] are = absurd are
as_many key (definition ∷ definitions) (column ∷ columns) are = ap suc (as_many key definitions columns are.1)

pub are_columns : (key : Option (List (List ℕ))) (definitions : List ColumnDef) (columns : List Column) → AreDefined key definitions columns
    → AllByRecursion (λ definition. IsName definition.name) definitions → AllByRecursion IsColumn columns
are_columns key [] [] are names = tt
are_columns key [] (column ∷ columns) are names = absurd are
are_columns key (definition ∷ definitions) [] are names = absurd are
are_columns key (definition ∷ definitions) (column ∷ columns) are names =
    ((subst IsName (sym are.0.name) names.0, are.0.type), are_columns key definitions columns are.1 names.1)

pub same_names : (key : Option (List (List ℕ))) (definitions : List ColumnDef) (columns : List Column) → AreDefined key definitions columns
    → map (λ definition. folded definition.name) definitions ≡ map (λ column. folded column.name) columns
same_names key [] [] are = refl
same_names key [] (column ∷ columns) are = absurd are
same_names key (definition ∷ definitions) [] are = absurd are
same_names key (definition ∷ definitions) (column ∷ columns) are =
    let here : folded definition.name ≡ folded column.name = ap folded (sym are.0.name) in
    let rest = same_names key definitions columns are.1 in
    cc

other_names : (name : List ℕ) (definitions : List ColumnDef) → not (is_named_in name definitions) ≡ true
    → AllByRecursion (λ n. folded name ≢ n) (map (λ definition. folded definition.name) definitions)
unfolding is_named_in
other_names name definitions free =
    all_map (λ (definition : ColumnDef). folded name ≢ folded definition.name) (λ n. folded name ≢ n) (λ definition. folded definition.name) (λ definition other. other) definitions
    (none_of (λ (definition : ColumnDef). same name definition.name) (λ definition. folded name ≢ folded definition.name) (λ definition no. unlike name definition.name no) definitions free)

pub distinct : (definitions : List ColumnDef) → are_different definitions ≡ true → EachToLater (λ a b. a ≢ b) (map (λ definition. folded definition.name) definitions)
unfolding are_different
distinct [] differ = tt
distinct (definition ∷ more) differ =
    let it = both (not (is_named_in definition.name more)) (are_different more) differ in
    (other_names definition.name more it.0, distinct more it.1)

-- the column that a definition of this place made
pub made_at : (key : Option (List (List ℕ))) (definitions : List ColumnDef) (columns : List Column) → AreDefined key definitions columns
    → (place : ℕ) (found : ColumnDef) → slice_get definitions place ≡ Some found → IsSomeAnd (slice_get columns place) (IsDefined key found)
made_at key [] columns are place found there = absurd cc
made_at key (definition ∷ definitions) [] are place found there = absurd are
made_at key (definition ∷ definitions) (column ∷ columns) are zero found there =
    let same : definition ≡ found = cc in subst (λ d. IsDefined key d column) same are.0
made_at key (definition ∷ definitions) (column ∷ columns) are (suc place) found there = made_at key definitions columns are.1 place found there
