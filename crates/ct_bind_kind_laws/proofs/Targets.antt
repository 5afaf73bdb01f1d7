-- The columns that a statement writes: each has the kind that its target is said to have.
use Rattle.std.proofs.Common.{◌≡◌, ◌≢◌, ℕ, suc, ◌+◌, ◌<◌, Bool, true, false, not, ◌==◌, nat_eq, cond, List, [], ◌∷◌, ◌++◌, map, length, Option, Some, None, IfSome, refl, sym, ap, subst, ◌∙◌, arith}
use Rattle.std.specs.List.{AllByRecursion, IsDistinct, list_any}
use Rattle.std.specs.Option.{option_map, IsSome, IsSomeAnd}
use Rattle.std.proofs.lemmas.Bool.Decides.{nat_tests}
use Rattle.std.proofs.lemmas.List.{length_push}
use Rattle.ct_types.specs.declared.bound.BoundExpr.{BoundExpr}
use Rattle.ct_types.specs.declared.schema.ColType.{ColType}
use Rattle.ct_types.specs.declared.schema.ColType.TheVariants as type
use Rattle.ct_types.specs.declared.schema.Column.{Column}
use Rattle.ct_types.specs.declared.schema.Schema.{Schema}
use Rattle.ct_types.specs.declared.stmt.SetColumn.{SetColumn}
use Rattle.ct_types.specs.declared.refusal.Refusal.TheVariants.{NoColumn, Ambiguous, KeyUpdate}
use Rattle.ct_types.specs.Answers.{demand}
use Rattle.ct_model.proofs.Members.{all_weaken, all_map}
use Rattle.ct_bind_kinds.specs.declared.kind.Kind.{Kind}
use Rattle.ct_bind_kinds.specs.Kinds.{kind_of_type}
use Rattle.ct_bind_kinds.specs.WellFormed.{Scope, column_of, column_kind, kind_of, is_of}
use Rattle.ct_bind_names.specs.Names.{same, is_among}
use Rattle.ct_bind.specs.Writes.{target, targets_from, target_from, table_target, listed_target, insert_targets, is_key, is_set, set_target}
use Rattle.ct_bind_kind_laws.specs.Statements.{HasColumn, IsColumnList, FitsColumn}
use Rattle.ct_types.proofs.Lists.{none_passes}
use Rattle.ct_bind_kind_laws.proofs.Operators.{fits}
use Rattle.ct_bind_kind_laws.proofs.Columns.{stands_here, behind_one}
use Rattle.ct_types.proofs.AnswersKept.{Kept, ok_kept, then_kept, after_kept, demand_kept, or_kept, each_after_kept}
use Rattle.ct_bind_kind_laws.proofs.Named.{IsNamed, IsNext, is_next, each_once}

-- the table has a column of this id and this kind
abbrev pub HasKind : Schema → ℕ → Kind → Type 0
HasKind table id kind = column_kind table id ≡ Some kind

-- what a name comes to is a column of that name, and of its kind
abbrev IsTarget : Schema → List ℕ → ℕ → Kind → Type 0
IsTarget table name id kind = HasKind table id kind × IsNamed table name true id

column_at : (table : Schema) (before : List Column) (column : Column) (after : List Column) (id : ℕ) → table.columns ≡ before ++ column ∷ after → id ≡ suc (length before)
    → column_of table.columns id ≡ Some column
column_at table before column after id is far = ap (column_of table.columns) far ∙ stands_here table.columns before column after (length before) is refl

at_id : (table : Schema) (before : List Column) (column : Column) (after : List Column) (id : ℕ) → table.columns ≡ before ++ column ∷ after → id ≡ suc (length before)
    → HasKind table id (kind_of_type column.kind)
at_id table before column after id is far = ap (option_map (λ (column : Column). kind_of_type column.kind)) (column_at table before column after id is far)

named_at : (table : Schema) (before : List Column) (column : Column) (after : List Column) (id : ℕ) (name : List ℕ) → table.columns ≡ before ++ column ∷ after → id ≡ suc (length before)
    → same column.name name ≡ true → IsNamed table name true id
named_at table before column after id name is far named =
    subst (λ (found : Option Column). IsSomeAnd found (λ column. same column.name name ≡ true)) (sym (column_at table before column after id is far)) named

next_id : (before : List Column) (column : Column) (id : ℕ) → id ≡ suc (length before) → id + 1 ≡ suc (length (before ++ column ∷ []))
next_id before column id far = omega (arith, length_push before column)

targets_have : (table : Schema) (before columns : List Column) (id : ℕ) → table.columns ≡ before ++ columns → id ≡ suc (length before)
    → AllByRecursion (λ it. HasKind table it.column it.kind) (targets_from id columns)
unfolding targets_from
targets_have table before [] id is far = tt
targets_have table before (column ∷ more) id is far =
    (at_id table before column more id is far, targets_have table (before ++ column ∷ []) more (id + 1) (behind_one table.columns before column more is) (next_id before column id far))

this_or_later : {X : Type 0} (P : X → Type 0) (test : Bool) (x : X) (later : Option X) → (test ≡ true → P x) → IfSome later P → IfSome (cond test (Some x) later) P
this_or_later P true x later here more = here refl
this_or_later P false x later here more = more

target_is : (name : List ℕ) (table : Schema) (before columns : List Column) (id : ℕ) → table.columns ≡ before ++ columns → id ≡ suc (length before)
    → IfSome (target_from name id columns) (λ it. IsTarget table name it.column it.kind)
unfolding target_from
target_is name table before [] id is far = tt
target_is name table before (column ∷ more) id is far =
    this_or_later (λ it. IsTarget table name it.column it.kind) (same column.name name) (target id (kind_of_type column.kind)) (target_from name (id + 1) more)
    (λ named. (at_id table before column more id is far, named_at table before column more id name is far named))
    (target_is name table (before ++ column ∷ []) more (id + 1) (behind_one table.columns before column more is) (next_id before column id far))

table_target_kept : (table : Schema) (name : List ℕ) → Kept (λ it. IsTarget table name it.column it.kind) (table_target table name)
unfolding table_target
table_target_kept table name = or_kept (λ it. IsTarget table name it.column it.kind) (target_from name 1 table.columns) (NoColumn name) (target_is name table [] table.columns 1 refl refl)

-- ---- the list of an INSERT

listed_kept : (table : Schema) (before : List (List ℕ)) (name : List ℕ) → Kept (λ it. HasKind table it.column it.kind) (listed_target table before name)
unfolding listed_target
listed_kept table before name =
    then_kept (λ it. IsTarget table name it.column it.kind) (λ it. HasKind table it.column it.kind) (table_target table name) _ (table_target_kept table name)
    (λ it is. demand_kept (λ it. HasKind table it.column it.kind) (not (is_among name before)) (Ambiguous name) _ (λ _. ok_kept (λ it. HasKind table it.column it.kind) it is.0))

targets_kept : (table : Schema) (names : Option (List (List ℕ))) → Kept (AllByRecursion (λ it. HasKind table it.column it.kind)) (insert_targets table names)
unfolding insert_targets
targets_kept table None = ok_kept (AllByRecursion (λ it. HasKind table it.column it.kind)) (targets_from 1 table.columns) (targets_have table [] table.columns 1 refl refl)
targets_kept table (Some names) = each_after_kept (λ it. HasKind table it.column it.kind) (listed_target table) (listed_kept table) [] names

listed_next : (table : Schema) (before : List (List ℕ)) (name : List ℕ) → Kept (λ it. IsNext table (λ name. name) before name it.column) (listed_target table before name)
unfolding listed_target is_among
listed_next table before name =
    then_kept (λ it. IsTarget table name it.column it.kind) (λ it. IsNext table (λ name. name) before name it.column) (table_target table name) _ (table_target_kept table name)
    (λ it is. demand_kept (λ it. IsNext table (λ name. name) before name it.column) (not (is_among name before)) (Ambiguous name) _
    (λ new. ok_kept (λ it. IsNext table (λ name. name) before name it.column) it (is_next table (λ name. name) before name it.column is.1 new)))

ids_above : (id least : ℕ) (columns : List Column) → id < least → AllByRecursion (λ other. nat_eq id other ≡ false) (map (λ it. it.column) (targets_from least columns))
unfolding targets_from
ids_above id least [] below = tt
ids_above id least (column ∷ more) below =
    let apart : nat_eq id least ≡ false = grind (arith, nat_tests) in
    (apart, ids_above id (least + 1) more (omega arith))

ids_once : (least : ℕ) (columns : List Column) → IsDistinct nat_eq (map (λ it. it.column) (targets_from least columns))
unfolding IsDistinct targets_from
ids_once least [] = tt
ids_once least (column ∷ more) = (ids_above least (least + 1) more (omega arith), ids_once (least + 1) more)

targets_once : (table : Schema) (names : Option (List (List ℕ))) → Kept (λ made. IsDistinct nat_eq (map (λ it. it.column) made)) (insert_targets table names)
unfolding insert_targets
targets_once table None = ok_kept (λ made. IsDistinct nat_eq (map (λ it. it.column) made)) (targets_from 1 table.columns) (ids_once 1 table.columns)
targets_once table (Some names) = record { holds = λ made came. ((each_once table (λ name. name) (λ it. it.column) (listed_target table) (listed_next table) [] names).holds made came).1 }

has_column : (found : Option Column) (kind : Kind) → option_map (λ column. kind_of_type column.kind) found ≡ Some kind → IsSome found
has_column None kind is = absurd cc
has_column (Some column) kind is = refl

pub targets_are : (table : Schema) (names : Option (List (List ℕ)))
    → Kept (λ made. AllByRecursion (λ it. HasKind table it.column it.kind) made × IsColumnList table (map (λ it. it.column) made)) (insert_targets table names)
targets_are table names = record {
  holds = λ made came.
      let have = (targets_kept table names).holds made came in (
        have,
        record {
          columns = all_map (λ it. HasKind table it.column it.kind) (HasColumn table) (λ it. it.column) (λ it has. has_column (column_of table.columns it.column) it.kind has) made have;
          distinct = (targets_once table names).holds made came;
        },
      );
}

-- ---- no column of the key

apart : (id column : ℕ) → (id == column) ≡ false → id ≢ column
apart id column other same = grind (arith, nat_tests)

no_key : (key : List ℕ) (column : ℕ) → not (list_any (λ id. id == column) key) ≡ true → AllByRecursion (λ id. id ≢ column) key
no_key key column free = all_weaken (λ id. (id == column) ≡ false) (λ id. id ≢ column) (λ id other. apart id column other) key (none_passes (λ id. id == column) key free)

abbrev pub MaySet : Schema → ℕ → Kind → Type 0
MaySet table id kind = HasKind table id kind × AllByRecursion (λ key. key ≢ id) table.key

pub set_target_kept : (table : Schema) (before : List SetColumn) (name : List ℕ) → Kept (λ it. MaySet table it.column it.kind) (set_target table before name)
unfolding set_target
set_target_kept table before name =
    then_kept (λ it. IsTarget table name it.column it.kind) (λ it. MaySet table it.column it.kind) (table_target table name) _ (table_target_kept table name)
    (λ it is. demand_kept (λ it. MaySet table it.column it.kind) (not (is_set name before)) (Ambiguous name) _
    (λ _. demand_kept (λ it. MaySet table it.column it.kind) (not (is_key table it.column)) (KeyUpdate name) _
    (λ free. ok_kept (λ it. MaySet table it.column it.kind) it (is.0, no_key table.key it.column free))))

-- the column that is set has this name, and none of those that are set before it
abbrev pub NextSet : Schema → List SetColumn → SetColumn → ℕ → Type 0
NextSet table = IsNext table (λ (set : SetColumn). set.column)

pub set_target_next : (table : Schema) (before : List SetColumn) (set : SetColumn) → Kept (λ it. NextSet table before set it.column) (set_target table before set.column)
unfolding set_target
set_target_next table before set =
    then_kept (λ it. IsTarget table set.column it.column it.kind) (λ it. NextSet table before set it.column) (table_target table set.column) _ (table_target_kept table set.column)
    (λ it is. demand_kept (λ it. NextSet table before set it.column) (not (is_set set.column before)) (Ambiguous set.column) _
    (λ new. after_kept (λ it. NextSet table before set it.column) (demand (not (is_key table it.column)) (KeyUpdate set.column)) _
    (λ _. ok_kept (λ it. NextSet table before set it.column) it (is_next table (λ (set : SetColumn). set.column) before set it.column is.1 new))))

-- ---- a value for a column

pub type_fits : (t : ColType) (found : Option Kind) → fits (kind_of_type t) found ≡ true → is_of (kind_of_type t) found ≡ true
type_fits type.Int found e = e
type_fits type.BigInt found e = e
type_fits (type.NVarChar most) found e = e
type_fits (type.VarBinary most) found e = e

found_fits : (column : Option Column) (kind : Kind) (found : Option Kind) → option_map (λ column. kind_of_type column.kind) column ≡ Some kind → fits kind found ≡ true
    → IsSomeAnd (option_map (λ column. kind_of_type column.kind) column) (λ kind. is_of kind found ≡ true)
found_fits None kind found is e = absurd cc
found_fits (Some column) kind found is e =
    let own : kind_of_type column.kind ≡ kind = cc in
    type_fits column.kind found (ap (λ k. fits k found) own ∙ e)

pub fits_column : (scope : Scope) (table : Schema) (id : ℕ) (kind : Kind) (value : BoundExpr) → HasKind table id kind → fits kind (kind_of scope value) ≡ true → FitsColumn scope table id value
fits_column scope table id kind value has fit = found_fits (column_of table.columns id) kind (kind_of scope value) has fit
