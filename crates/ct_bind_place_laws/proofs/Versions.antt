-- What CHANGETABLE(VERSION ..) refuses: its list, and then the values of its tuple.
use Rattle.std.proofs.Common.{◌≡◌, ℕ, zero, suc, Bool, true, false, not, List, [], ◌∷◌, ◌++◌, length, map, slice_get, Option, Some, None, is_some, Ok, inl, inr, refl, sym, ap, ◌∙◌, subst, append_assoc}
use Rattle.std.specs.Prelude.{◌==◌}
use Rattle.std.specs.List.{Contains, AllByRecursion}
use Rattle.std.proofs.lemmas.List.Elements.{Contains-append_right}
use Rattle.std.proofs.lemmas.Option.{same_Some}
use Rattle.ct_types.specs.declared.catalogue.Catalogued.{Catalogued}
use Rattle.ct_types.specs.declared.catalogue.Variable.{Variable}
use Rattle.ct_types.specs.declared.expr.Expr.{Expr}
use Rattle.ct_types.specs.declared.expr.ObjectName.{ObjectName}
use Rattle.ct_types.specs.declared.refusal.Refusal.{Refusal}
use Rattle.ct_types.specs.declared.refusal.Refusal.TheVariants.{NoColumn, NoObject, NotTracked, CountClash, TypeClash}
use Rattle.ct_types.specs.declared.schema.Column.{Column}
use Rattle.ct_types.specs.declared.schema.Schema.{Schema}
use Rattle.ct_bind_kinds.specs.declared.kind.Kind.{Kind}
use Rattle.ct_types.specs.Answers.{◌>>=◌, or_refuse, each_after}
use Rattle.ct_types.proofs.AnswersCaused.{Caused, ok_caused, err_caused, then_caused, after_caused, met_caused, or_caused, found_caused}
use Rattle.ct_types.proofs.AnswersTaken.{steps, passed, same_Ok, there}
use Rattle.ct_bind_names.specs.Catalogue.{table_named, existing_table, tracked_table}
use Rattle.ct_bind_names.specs.Names.{is_among, table_name}
use Rattle.ct_bind_expr.specs.declared.place.Place.{Place}
use Rattle.ct_bind_expr.specs.Versions.{values, tuple, key_columns, key_column, kind_of_column, listed_kind, listed_kinds, missing, none_missing, version_of}
use Rattle.ct_bind_expr.specs.Walk.{walk}
use Rattle.ct_bind_place_laws.specs.Causes.{IsNoOperand}
use Rattle.ct_bind_place_laws.specs.Columns.{IsNotOfKey}
use Rattle.ct_bind_place_laws.proofs.Members.{first_is_in, found_is_in}
use Rattle.ct_bind_place_laws.proofs.Operands.{operand_by}

-- ---- the table

pub tracked_by : {Cause : Refusal → Type 0} (tables : List Catalogued) (name : ObjectName) → Cause (NoObject (table_name name)) → Cause (NotTracked (table_name name)) → Caused Cause (tracked_table tables name)
unfolding tracked_table existing_table
tracked_by tables name none untracked = then_caused _ _ (or_caused (table_named tables (table_name name)) (NoObject (table_name name)) (λ _. none)) (λ table. met_caused (is_some table.tracked) (NotTracked (table_name name)) (Ok table) (λ _. untracked) (λ _. ok_caused table))

pub tracked_is : (tables : List Catalogued) (name : ObjectName) (table : Catalogued) → tracked_table tables name ≡ Ok table → table_named tables (table_name name) ≡ Some table
unfolding tracked_table existing_table
tracked_is tables name table e =
    let first = steps (or_refuse (table_named tables (table_name name)) (NoObject (table_name name))) _ table e in
    let rest = passed (is_some first.came.tracked) (NotTracked (table_name name)) (Ok first.came) table first.goes in
    there (table_named tables (table_name name)) (NoObject (table_name name)) table (first.is ∙ rest.goes)

-- ---- the list

pub not_true : (b : Bool) → not b ≡ false → b ≡ true
not_true true e = refl
not_true false e = absurd cc

not_false : (b : Bool) → not b ≡ true → b ≡ false
not_false true e = absurd cc
not_false false e = refl

module _ {Cause : Refusal → Type 0} (key : List Column) (all : List (List ℕ)) (bad : (name : List ℕ) → IsNotOfKey key all name → Cause (NoColumn name)) where
  listed_by : (before : List (List ℕ)) (name : List ℕ) (after : List (List ℕ)) → all ≡ before ++ name ∷ after → Caused Cause (listed_kind key before name)
  unfolding listed_kind
  listed_by before name after are =
      let is : Contains all name = subst (λ (ns : List (List ℕ)). Contains ns name) (sym are) (Contains-append_right before (name ∷ after) name (first_is_in name after)) in
      found_caused (key_column key name) (NoColumn name) _ (λ none. bad name (inl (is, ap (λ o. is_some o) none)))
      (λ column found. met_caused (not (is_among name before)) (NoColumn name) _ (λ e. bad name (inr (inl (before, after, are, not_true (is_among name before) e)))) (λ _. ok_caused _))

  each_listed_by : (before names : List (List ℕ)) → all ≡ before ++ names → Caused Cause (each_after (listed_kind key) before names)
  each_listed_by before [] are = ok_caused []
  each_listed_by before (name ∷ names) are =
      then_caused (listed_kind key before name) _ (listed_by before name names are)
      (λ kind. then_caused (each_after (listed_kind key) (before ++ name ∷ []) names) _ (each_listed_by (before ++ name ∷ []) names (are ∙ sym (append_assoc before (name ∷ []) names))) (λ kinds. ok_caused _))

  missing_by : (o : Option Column) → missing key all ≡ o → Caused Cause (none_missing o)
  unfolding missing
  missing_by None e = ok_caused tt
  missing_by (Some column) e =
      let it = found_is_in (λ (c : Column). not (is_among c.name all)) key column e in
      err_caused (NoColumn column.name) (bad column.name (inr (inr (column, it.0, refl, not_false (is_among column.name all) it.1))))

  pub listed_kinds_by : Caused Cause (listed_kinds key all)
  unfolding listed_kinds
  listed_kinds_by = then_caused _ _ (each_listed_by [] all refl) (λ kinds. then_caused _ _ (missing_by (missing key all) refl) (λ _. ok_caused _))

-- each kind is that of the column of the key that the name at its place names
record IsKindAt (key : List Column) (names : List (List ℕ)) (at : ℕ) (kind : Kind) : Type 0 where
  name : List ℕ
  column : Column
  name_is : slice_get names at ≡ Some name
  column_is : key_column key name ≡ Some column
  kind_is : kind_of_column column ≡ kind

listed_is : (key : List Column) (before : List (List ℕ)) (name : List ℕ) (kind : Kind) → listed_kind key before name ≡ Ok kind → (column : Column) × (key_column key name ≡ Some column) × (kind_of_column column ≡ kind)
unfolding listed_kind
listed_is key before name kind e =
    let first = steps (or_refuse (key_column key name) (NoColumn name)) _ kind e in
    let rest = passed (not (is_among name before)) (NoColumn name) (Ok (kind_of_column first.came)) kind first.goes in
    (first.came, there (key_column key name) (NoColumn name) first.came first.is, same_Ok (kind_of_column first.came) kind rest.goes)

-- the first of them, and the others
record Cut (key : List Column) (before : List (List ℕ)) (name : List ℕ) (names : List (List ℕ)) (kinds : List Kind) : Type 0 where
  first : Kind
  more : List Kind
  first_is : listed_kind key before name ≡ Ok first
  more_are : each_after (listed_kind key) (before ++ name ∷ []) names ≡ Ok more
  are : first ∷ more ≡ kinds

cut : (key : List Column) (before : List (List ℕ)) (name : List ℕ) (names : List (List ℕ)) (kinds : List Kind) → each_after (listed_kind key) before (name ∷ names) ≡ Ok kinds → Cut key before name names kinds
cut key before name names kinds e =
    let first = steps (listed_kind key before name) (λ k. each_after (listed_kind key) (before ++ name ∷ []) names >>= (λ made. Ok (k ∷ made))) kinds e in
    let more = steps (each_after (listed_kind key) (before ++ name ∷ []) names) (λ made. Ok (first.came ∷ made)) kinds first.goes in
    record { first = first.came; more = more.came; first_is = first.is; more_are = more.is; are = same_Ok (first.came ∷ more.came) kinds more.goes }

kinds_at : (key : List Column) (before names : List (List ℕ)) (kinds : List Kind) (at : ℕ) (kind : Kind) → each_after (listed_kind key) before names ≡ Ok kinds → slice_get kinds at ≡ Some kind → IsKindAt key names at kind
kinds_at key before [] kinds at kind e is = let none : [] ≡ kinds = same_Ok [] kinds e in let clash : None ≡ Some kind = ap (λ (ks : List Kind). slice_get ks at) none ∙ is in absurd cc
kinds_at key before (name ∷ names) kinds zero kind e is =
    let it = cut key before name names kinds e in
    let of = listed_is key before name it.first it.first_is in
    let same : it.first ≡ kind = same_Some it.first kind (ap (λ (ks : List Kind). slice_get ks 0) it.are ∙ is) in
    record { name = name; column = of.0; name_is = refl; column_is = of.1; kind_is = of.2 ∙ same }
kinds_at key before (name ∷ names) kinds (suc at) kind e is =
    let it = cut key before name names kinds e in
    let later = kinds_at key (before ++ name ∷ []) names it.more at kind it.more_are (ap (λ (ks : List Kind). slice_get ks (suc at)) it.are ∙ is) in
    record { name = later.name; column = later.column; name_is = later.name_is; column_is = later.column_is; kind_is = later.kind_is }

kinds_of : (key : List Column) (names : List (List ℕ)) (kinds : List Kind) → listed_kinds key names ≡ Ok kinds → each_after (listed_kind key) [] names ≡ Ok kinds
unfolding listed_kinds
kinds_of key names kinds e =
    let made = steps (each_after (listed_kind key) [] names) _ kinds e in
    let last = steps (none_missing (missing key names)) _ kinds made.goes in
    made.is ∙ last.goes

-- ---- the tuple

module _ (tables : List Catalogued) (variables : List Variable) (place : Place) {Cause : Refusal → Type 0} where
  values_by : (kinds : List Kind) (ys : List Expr) → AllByRecursion (λ y. Caused Cause (walk tables variables y place)) ys
      → ((at : ℕ) (y : Expr) (kind : Kind) → slice_get ys at ≡ Some y → slice_get kinds at ≡ Some kind → IsNoOperand tables variables place kind y → Cause TypeClash)
      → Caused Cause (values place kinds (map (walk tables variables) ys))
  unfolding values
  values_by [] ys known bad = ok_caused []
  values_by (kind ∷ kinds) [] known bad = ok_caused []
  values_by (kind ∷ kinds) (y ∷ ys) known bad =
      then_caused _ _ (operand_by tables variables place kind y known.0 (λ no. bad 0 y kind refl refl no))
      (λ value. then_caused _ _ (values_by kinds ys known.1 (λ at z k stands is no. bad (suc at) z k stands is no)) (λ more. ok_caused _))

  pub tuple_by : (kinds : List Kind) (ys : List Expr) → AllByRecursion (λ y. Caused Cause (walk tables variables y place)) ys → ((wanted got : ℕ) → Cause (CountClash wanted got))
      → ((at : ℕ) (y : Expr) (kind : Kind) → slice_get ys at ≡ Some y → slice_get kinds at ≡ Some kind → IsNoOperand tables variables place kind y → Cause TypeClash)
      → Caused Cause (tuple place kinds (map (walk tables variables) ys))
  unfolding tuple
  tuple_by kinds ys known count bad =
      met_caused (length (map (walk tables variables) ys) == length kinds) (CountClash (length kinds) (length (map (walk tables variables) ys))) _
      (λ _. count (length kinds) (length (map (walk tables variables) ys))) (λ _. values_by kinds ys known bad)

  pub version_of_by : (table : Schema) (names : List (List ℕ)) (ys : List Expr) → AllByRecursion (λ y. Caused Cause (walk tables variables y place)) ys → ((wanted got : ℕ) → Cause (CountClash wanted got))
      → ((name : List ℕ) → IsNotOfKey (key_columns table) names name → Cause (NoColumn name))
      → ((at : ℕ) (y : Expr) (name : List ℕ) (column : Column) → slice_get ys at ≡ Some y → slice_get names at ≡ Some name → key_column (key_columns table) name ≡ Some column
      → IsNoOperand tables variables place (kind_of_column column) y → Cause TypeClash)
      → Caused Cause (version_of table names (map (walk tables variables) ys) place)
  unfolding version_of
  version_of_by table names ys known count lacks bad =
      after_caused (listed_kinds (key_columns table) names) _ (listed_kinds_by (key_columns table) names lacks)
      (λ kinds made. then_caused _ _ (tuple_by kinds ys known count
      (λ at y kind stands is no.
      let it = kinds_at (key_columns table) [] names kinds at kind (kinds_of (key_columns table) names kinds made) is in
      bad at y it.name it.column stands it.name_is it.column_is (subst (λ (k : Kind). IsNoOperand tables variables place k y) (sym it.kind_is) no))) (λ bound. ok_caused _))
