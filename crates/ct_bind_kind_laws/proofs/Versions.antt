-- That CHANGETABLE(VERSION ..) names a table and gives its key a value of each column's kind, and that the scalar form has
-- the kind of the column that it shows.
use Rattle.std.proofs.Common.{◌≡◌, ℕ, ◌+◌, Bool, true, false, not, cond, ◌&&◌, ◌||◌, ◌==◌, List, [], ◌∷◌, ◌++◌, map, find, length, if◌then◌else◌, nat_eq, Option, Some, None, is_some, Ok, refl, sym, ap, ◌∙◌, subst, arith}
use Rattle.std.specs.List.{AllByRecursion, IsDistinct, list_any, position_from, filter_map, cons_option, slice_get}
use Rattle.std.specs.Option.{option_map, option_and_then}
use Rattle.std.specs.Cmp.Lexicographic.{pointwise}
use Rattle.std.proofs.lemmas.Bool.Decides.{nat_tests}
use Rattle.std.proofs.lemmas.List.{length-map}
use Rattle.ct_types.specs.declared.bound.BoundExpr.{BoundExpr}
use Rattle.ct_types.specs.declared.bound.BoundExpr.TheVariants as bound
use Rattle.ct_types.specs.declared.bound.BoundExpr.TheOpen as b
use Rattle.ct_types.specs.declared.bound.BoundExpr.TheFolds.{fold-roll-BoundRowVersion, fold-roll-BoundScalar}
use Rattle.ct_types.specs.declared.bound.BoundRowVersion.{BoundRowVersion, roll-BoundRowVersion}
use Rattle.ct_types.specs.declared.bound.BoundScalar.{roll-BoundScalar}
use Rattle.ct_types.specs.declared.bound.VersionColumn.{VersionColumn}
use Rattle.ct_types.specs.declared.catalogue.Catalogued.{Catalogued}
use Rattle.ct_types.specs.declared.expr.ObjectName.{ObjectName}
use Rattle.ct_types.specs.declared.expr.Scalar.{Scalar}
use Rattle.ct_types.specs.declared.refusal.Refusal.TheVariants.{NoColumn, NoObject, NotTracked, CountClash}
use Rattle.ct_types.specs.declared.schema.ColType.{ColType}
use Rattle.ct_types.specs.declared.schema.ColType.TheVariants as type
use Rattle.ct_types.specs.declared.schema.Column.{Column}
use Rattle.ct_types.specs.declared.schema.Schema.{Schema}
use Rattle.ct_bind_kinds.specs.declared.kind.Kind.{Kind}
use Rattle.ct_bind_kinds.specs.declared.kind.Kind.TheVariants.{Number, Condition}
use Rattle.ct_bind_kinds.specs.Kinds.{kind_of_type, is_value, agree}
use Rattle.ct_bind_kinds.specs.WellFormed.{Scope, kind_of, table_of_version, table_of, key_kinds, go_together, version_column_kind, expr_kind, row_version_table, scalar_kind, term_kind}
use Rattle.ct_types.specs.Answers.{Answer, ◌>>=◌, ◌>>◌, demand, or_refuse, each_after}
use Rattle.ct_bind_names.specs.Names.{same, is_among, place_of, table_name}
use Rattle.ct_bind_names.specs.Catalogue.{table_named, existing_table, tracked_table}
use Rattle.ct_bind_expr.specs.declared.place.Typed.{Typed}
use Rattle.ct_bind_expr.specs.Places.{typed, of_kind, closed}
use Rattle.ct_bind_expr.specs.Versions.{operand, values, tuple, key_columns, kind_of_column, key_column, listed_kind, missing, none_missing, listed_kinds, value_of, in_key_order, version_of, version_column}
use Rattle.ct_bind_expr.specs.Walk.{scalar_column}
use Rattle.ct_bind_expr.specs.Walked.{walked, scalar_with}
use Rattle.ct_bind_kind_laws.specs.Laws.{HasKey, Sound}
use Rattle.ct_bind_kind_laws.specs.Statements.{catalogued_of, tracked_of}
use Rattle.ct_types.proofs.AnswersTaken.{steps, passed, same_Ok, there}
use Rattle.ct_types.proofs.AnswersKept.{Kept, ok_kept, then_kept, demand_kept}
use Rattle.ct_types.proofs.Lists.{all_found, all_mapped, all_pass, all_join}
use Rattle.ct_bind_kind_laws.proofs.Operators.{Kinded, Answered, AllAnswered, layer, fits, fits_operand}
use Rattle.ct_bind_kind_laws.proofs.Columns.{stands_here, one_further, behind_one}
use Rattle.ct_bind_kind_laws.proofs.Keys.{kinds_of_key, column_shown, Means, each_means}

-- ---- kinds

suits_goes : (a wanted : Kind) → is_value wanted ≡ true → (is_value a && agree a wanted) ≡ (is_value a && (is_value wanted && agree wanted a))
suits_goes Number Number value = refl
suits_goes a Condition value = absurd cc
suits_goes a wanted value = refl

-- what fits a column goes together with it
fits_goes : (type : ColType) (found : Option Kind) → fits (kind_of_type type) found ≡ true → go_together found (Some (kind_of_type type)) ≡ true
fits_goes type.Int None fit = absurd cc
fits_goes type.BigInt None fit = absurd cc
fits_goes (type.NVarChar most) None fit = absurd cc
fits_goes (type.VarBinary most) None fit = absurd cc
fits_goes type.Int (Some kind) fit = sym (suits_goes kind (kind_of_type type.Int) refl) ∙ fit
fits_goes type.BigInt (Some kind) fit = sym (suits_goes kind (kind_of_type type.BigInt) refl) ∙ fit
fits_goes (type.NVarChar most) (Some kind) fit = sym (suits_goes kind (kind_of_type (type.NVarChar most)) refl) ∙ fit
fits_goes (type.VarBinary most) (Some kind) fit = sym (suits_goes kind (kind_of_type (type.VarBinary most)) refl) ∙ fit

no_missing : (found : Option Column) (u : Unit {0}) → none_missing found ≡ Ok u → found ≡ None
no_missing None u e = refl
no_missing (Some column) u e = absurd cc

-- ---- the list of columns and the values

module _ (s : Scope) (key : List Column) where
  -- a name of the list means a column of the key, which the value fits
  abbrev Given : List ℕ → BoundExpr → Type 0
  Given name value = (column : Column) × (key_column key name ≡ Some column) × (fits (kind_of_column column) (kind_of s value) ≡ true)

  abbrev AreGiven : List (List ℕ) → List BoundExpr → Type 0
  AreGiven [] [] = Unit {0}
  AreGiven (name ∷ names) (value ∷ values) = Given name value × AreGiven names values
  AreGiven names values = ⊥

  are_given : (before names : List (List ℕ)) (kinds : List Kind) (answers : List (Answer Typed)) (made : List BoundExpr) → AllAnswered s answers → length answers ≡ length kinds
      → each_after (listed_kind key) before names ≡ Ok kinds → values closed kinds (map walked answers) ≡ Ok made → AreGiven names made
  unfolding listed_kind values operand
  are_given before [] [] answers made all many are e = subst (AreGiven []) (same_Ok [] made e) tt
  are_given before [] (kind ∷ kinds) answers made all many are e = absurd cc
  are_given before (name ∷ names) [] answers made all many are e =
      let p = steps (listed_kind key before name) (λ b. each_after (listed_kind key) (before ++ name ∷ []) names >>= (λ made. Ok (b ∷ made))) [] are in
      let q = steps (each_after (listed_kind key) (before ++ name ∷ []) names) (λ made. Ok (p.came ∷ made)) [] p.goes in
      let same : p.came ∷ q.came ≡ [] = same_Ok (p.came ∷ q.came) [] q.goes in
      absurd cc
  are_given before (name ∷ names) (kind ∷ kinds) [] made all many are e = absurd cc
  are_given before (name ∷ names) (kind ∷ kinds) (answer ∷ answers) made all many are e =
      let p = steps (listed_kind key before name) (λ b. each_after (listed_kind key) (before ++ name ∷ []) names >>= (λ made. Ok (b ∷ made))) (kind ∷ kinds) are in
      let q = steps (each_after (listed_kind key) (before ++ name ∷ []) names) (λ made. Ok (p.came ∷ made)) (kind ∷ kinds) p.goes in
      let same : p.came ∷ q.came ≡ kind ∷ kinds = same_Ok (p.came ∷ q.came) (kind ∷ kinds) q.goes in
      let first : p.came ≡ kind = cc in
      let rest : q.came ≡ kinds = cc in
      let c = steps (or_refuse (key_column key name) (NoColumn name)) (λ column. demand (not (is_among name before)) (NoColumn name) >> Ok (kind_of_column column)) p.came p.is in
      let d = passed (not (is_among name before)) (NoColumn name) (Ok (kind_of_column c.came)) p.came c.goes in
      let v = steps (answer >>= of_kind kind) (λ value. values closed kinds (map walked answers) >>= (λ more. Ok (value ∷ more))) made e in
      let w = steps answer (of_kind kind) v.came v.is in
      let m = steps (values closed kinds (map walked answers)) (λ more. Ok (v.came ∷ more)) made v.goes in
      let fit : fits kind (kind_of s v.came) ≡ true = fits_operand s kind w.came v.came (all.0 w.came w.is) w.goes in
      let given : Given name v.came =
      (c.came, there (key_column key name) (NoColumn name) c.came c.is, ap (λ k. fits k (kind_of s v.came)) (same_Ok (kind_of_column c.came) p.came d.goes ∙ first) ∙ fit) in
      let fewer : length answers ≡ length kinds = omega arith in
      subst (AreGiven (name ∷ names)) (same_Ok (v.came ∷ m.came) made m.goes)
      (given, are_given (before ++ name ∷ []) names kinds answers m.came all.1 fewer (q.is ∙ ap (λ ks. Ok ks) rest) m.is)

  -- the value that a column is given
  record Found (own : List ℕ → Bool) (found : Option BoundExpr) : Type 0 where
    name : List ℕ
    value : BoundExpr
    is : found ≡ Some value
    is_own : own name ≡ true
    given : Given name value

  this_or_later : (own : List ℕ → Bool) (whole : List BoundExpr) (at : ℕ) (name : List ℕ) (value : BoundExpr) (later : Option ℕ) (test : Bool) → own name ≡ test → slice_get whole at ≡ Some value → Given name value
      → (own name ≡ false → Found own (option_and_then (slice_get whole) later)) → Found own (option_and_then (slice_get whole) (cond test (Some at) later))
  this_or_later own whole at name value later true is here given more = record { name = name; value = value; is = here; is_own = is; given = given }
  this_or_later own whole at name value later false is here given more = more is

  found_value : (own : List ℕ → Bool) (whole before values : List BoundExpr) (names : List (List ℕ)) (at : ℕ) → whole ≡ before ++ values → at ≡ length before → AreGiven names values → list_any own names ≡ true
      → Found own (option_and_then (slice_get whole) (position_from own at names))
  found_value own whole before values [] at is far given any = absurd cc
  found_value own whole before [] (name ∷ names) at is far given any = absurd given
  found_value own whole before (value ∷ values) (name ∷ names) at is far given any =
      this_or_later own whole at name value (position_from own (at + 1) names) (own name) refl (stands_here whole before value values at is far) given.0
      (λ other. found_value own whole (before ++ value ∷ []) values names (at + 1) (behind_one whole before value values is) (one_further before value at far) given.1
      (sym (ap (λ b. b || list_any own names) other) ∙ any))

  -- ---- the values in key order

  abbrev Suits : Option BoundExpr → Column → Type 0
  Suits None column = ⊥
  Suits (Some value) column = go_together (kind_of s value) (Some (kind_of_column column)) ≡ true

  one_suits : (found : Option BoundExpr) (column : Column) (more : List BoundExpr) (kinds : List (Option Kind)) → Suits found column → pointwise go_together (map (kind_of s) more) kinds ≡ true
      → pointwise go_together (map (kind_of s) (cons_option found more)) (Some (kind_of_column column) ∷ kinds) ≡ true
  one_suits None column more kinds suits rest = absurd suits
  one_suits (Some value) column more kinds suits rest = ap (λ t. t && pointwise go_together (map (kind_of s) more) kinds) suits ∙ rest

  all_suit : (find : Column → Option BoundExpr) (columns : List Column) → AllByRecursion (λ column. Suits (find column) column) columns
      → pointwise go_together (map (kind_of s) (filter_map find columns)) (map (λ column. Some (kind_of_column column)) columns) ≡ true
  all_suit find [] all = refl
  all_suit find (column ∷ more) all = one_suits (find column) column (filter_map find more) (map (λ column. Some (kind_of_column column)) more) all.0 (all_suit find more all.1)

  column_suits : (names : List (List ℕ)) (made : List BoundExpr) → AreGiven names made → (column : Column) → Means key column → is_among column.name names ≡ true → Suits (value_of names made column) column
  unfolding is_among place_of key_column
  column_suits names made given column means among =
      let f = found_value (same column.name) made [] made names 0 refl refl given among in
      let meant : find (λ c. same c.name f.name) key ≡ Some column = means f.name f.is_own in
      let is : find (λ c. same c.name f.name) key ≡ Some f.given.0 = f.given.1 in
      let one : f.given.0 ≡ column = cc in
      let fit : fits (kind_of_column column) (kind_of s f.value) ≡ true = subst (λ (c : Column). fits (kind_of_column c) (kind_of s f.value) ≡ true) one f.given.2 in
      subst (λ (o : Option BoundExpr). Suits o column) (sym f.is) (fits_goes column.kind (kind_of s f.value) fit)

  pub in_order_suit : (names : List (List ℕ)) (made : List BoundExpr) → IsDistinct same (map (λ column. column.name) key) → AreGiven names made → missing key names ≡ None
      → pointwise go_together (map (kind_of s) (in_key_order key names made)) (map (λ column. Some (kind_of_column column)) key) ≡ true
  unfolding in_key_order missing
  in_order_suit names made distinct given none =
      all_suit (value_of names made) key
      (all_join (Means key) (λ column. is_among column.name names ≡ true) (λ column. Suits (value_of names made column) column) (column_suits names made given) key (each_means key distinct)
      (all_pass (λ column. is_among column.name names) key none))

-- ---- CHANGETABLE(VERSION ..)

module _ (s : Scope) where
  passed_table : (found : Option Schema) (table : Schema) (test : Schema → Bool) → found ≡ Some table → test table ≡ true → option_and_then (λ table. if test table then Some table else None) found ≡ Some table
  passed_table found table test is holds = ap (option_and_then (λ table. if test table then Some table else None)) is ∙ ap (λ t. if t then Some table else None) holds

  pub version_kinded : (table : Schema) (names : List (List ℕ)) (answers : List (Answer Typed)) (version : BoundRowVersion) → HasKey table → table_of s.tables table.id ≡ Some table → AllAnswered s answers
      → version_of table names (map walked answers) closed ≡ Ok version → table_of_version s version ≡ Some table
  unfolding version_of listed_kinds tuple
  version_kinded table names answers version has found all e =
      let key : List Column = key_columns table in
      let made : List BoundExpr → Answer BoundRowVersion = λ bound. Ok (roll-BoundRowVersion (record { table = table.id; values = in_key_order key names bound })) in
      let p = steps (listed_kinds key names) (λ kinds. tuple closed kinds (map walked answers) >>= made) version e in
      let q = steps (tuple closed p.came (map walked answers)) made version p.goes in
      let l = steps (each_after (listed_kind key) [] names) (λ kinds. none_missing (missing key names) >> Ok kinds) p.came p.is in
      let n = steps (none_missing (missing key names)) (λ _. Ok l.came) p.came l.goes in
      let t = passed (length (map walked answers) == length p.came) (CountClash (length p.came) (length (map walked answers))) (values closed p.came (map walked answers)) q.came q.is in
      let many : length answers ≡ length p.came = grind (arith, nat_tests, length-map answers walked, t.holds) in
      let given = are_given s key [] names p.came answers q.came all many (l.is ∙ ap (λ ks. Ok ks) (same_Ok l.came p.came n.goes)) t.goes in
      let in_order : List BoundExpr = in_key_order key names q.came in
      let suit : pointwise go_together (map (kind_of s) in_order) (key_kinds table) ≡ true =
      ap (pointwise go_together (map (kind_of s) in_order)) (kinds_of_key table has) ∙ in_order_suit s key names q.came has.names given (no_missing (missing key names) n.came n.is) in
      ap (table_of_version s) (sym (same_Ok (roll-BoundRowVersion (record { table = table.id; values = in_order })) version q.goes))
      ∙ fold-roll-BoundRowVersion (Option Kind) (Option Schema) (Option Kind) (Option Kind) (expr_kind s) (row_version_table s) scalar_kind term_kind (record { table = table.id; values = in_order })
      ∙ passed_table (table_of s.tables table.id) table (λ it. pointwise go_together (map (kind_of s) in_order) (key_kinds it)) found suit

  -- ---- the scalar form

  column_kinded : (table : Schema) (source alias column : List ℕ) (version : BoundRowVersion) → HasKey table → table_of_version s version ≡ Some table → Answered s (scalar_column table source alias column version)
  unfolding scalar_column
  column_kinded table source alias column version has is it e =
      let form : VersionColumn × Kind → Typed = λ shown. typed (bound.Scalar (roll-BoundScalar (record { version = version; column = shown.0 }))) shown.1 in
      let p = passed (same source alias) (NoColumn source) (version_column table column >>= (λ shown. Ok (form shown))) it e in
      let q = steps (version_column table column) (λ shown. Ok (form shown)) it p.goes in
      subst (Kinded s) (same_Ok (form q.came) it q.goes)
      (ap (kind_of s) (sym (bound.rolls-Scalar (roll-BoundScalar (record { version = version; column = q.came.0 })))) ∙ layer s (b.Scalar (roll-BoundScalar (record { version = version; column = q.came.0 })))
      ∙ fold-roll-BoundScalar (Option Kind) (Option Schema) (Option Kind) (Option Kind) (expr_kind s) (row_version_table s) scalar_kind term_kind (record { version = version; column = q.came.0 })
      ∙ ap (option_and_then (λ table. version_column_kind table q.came.0)) is ∙ column_shown table has column q.came q.is)

-- ---- tables by their ids

later_stands : (tables : List Catalogued) (first table : Catalogued) (test : Bool) → (first.schema.id == table.schema.id) ≡ test → test ≡ false → catalogued_of tables table.schema.id ≡ Some table
    → cond test (Some first) (catalogued_of tables table.schema.id) ≡ Some table
later_stands tables first table true is other found = absurd cc
later_stands tables first table false is other found = found

first_or_later : (first table : Catalogued) (tables : List Catalogued) (test : Bool) (later : Option Catalogued) → (later ≡ Some table → nat_eq first.schema.id table.schema.id ≡ false)
    → (later ≡ Some table → catalogued_of tables table.schema.id ≡ Some table) → cond test (Some first) later ≡ Some table → catalogued_of (first ∷ tables) table.schema.id ≡ Some table
first_or_later first table tables true later other more e =
    let same : first ≡ table = cc in
    let own : nat_eq table.schema.id table.schema.id ≡ true = grind (arith, nat_tests) in
    subst (λ (it : Catalogued). cond (nat_eq it.schema.id table.schema.id) (Some it) (catalogued_of tables table.schema.id) ≡ Some table) (sym same)
    (ap (λ t. cond t (Some table) (catalogued_of tables table.schema.id)) own)
first_or_later first table tables false later other more e = later_stands tables first table (nat_eq first.schema.id table.schema.id) refl (other e) (more e)

-- a table that is found stands in the catalogue with its id
pub stands : (test : Catalogued → Bool) (tables : List Catalogued) (table : Catalogued) → IsDistinct nat_eq (map (λ table. table.schema.id) tables) → find test tables ≡ Some table
    → catalogued_of tables table.schema.id ≡ Some table
unfolding IsDistinct
stands test [] table distinct e = absurd cc
stands test (first ∷ tables) table distinct e =
    first_or_later first table tables (test first) (find test tables)
    (all_found (λ table. nat_eq first.schema.id table.schema.id ≡ false) test tables table (all_mapped (λ (table : Catalogued). table.schema.id) (λ id. nat_eq first.schema.id id ≡ false) tables distinct.0))
    (stands test tables table distinct.1) e

mapped_or : (test : Bool) (first : Catalogued) (schema : Option Schema) (table : Option Catalogued) → schema ≡ option_map (λ table. table.schema) table
    → cond test (Some first.schema) schema ≡ option_map (λ table. table.schema) (cond test (Some first) table)
mapped_or true first schema table is = refl
mapped_or false first schema table is = is

-- the schema with an id is that of the table with the id
schema_of : (tables : List Catalogued) (id : ℕ) → table_of (map (λ table. table.schema) tables) id ≡ option_map (λ table. table.schema) (catalogued_of tables id)
schema_of [] id = refl
schema_of (first ∷ tables) id = mapped_or (first.schema.id == id) first (table_of (map (λ table. table.schema) tables) id) (catalogued_of tables id) (schema_of tables id)

pub record IsThere (tables : List Catalogued) (table : Catalogued) : Type 0 where
  pub stands : catalogued_of tables table.schema.id ≡ Some table
  pub found : table_of (map (λ table. table.schema) tables) table.schema.id ≡ Some table.schema
  pub has : HasKey table.schema

pub existing : (tables : List Catalogued) → Sound tables → (name : ObjectName) → Kept (IsThere tables) (existing_table tables name)
unfolding existing_table table_named
existing tables sound name = record {
  holds = λ table e.
      let test : Catalogued → Bool = λ table. same table.schema.name (table_name name) in
      let is : find test tables ≡ Some table = there (find test tables) (NoObject (table_name name)) table e in
      let own : catalogued_of tables table.schema.id ≡ Some table = stands test tables table sound.distinct is in
      record {
        stands = own;
        found = schema_of tables table.schema.id ∙ ap (option_map (λ (table : Catalogued). table.schema)) own;
        has = all_found (λ table. HasKey table.schema) test tables table sound.keys is;
      };
}

pub record IsThereTracked (tables : List Catalogued) (table : Catalogued) : Type 0 where
  pub there : IsThere tables table
  pub found : tracked_of tables table.schema.id ≡ Some table.schema

pub tracked : (tables : List Catalogued) → Sound tables → (name : ObjectName) → Kept (IsThereTracked tables) (tracked_table tables name)
unfolding tracked_table
tracked tables sound name =
    then_kept (IsThere tables) (IsThereTracked tables) (existing_table tables name) _ (existing tables sound name)
    (λ table here. demand_kept (IsThereTracked tables) (is_some table.tracked) (NotTracked (table_name name)) _
    (λ is. ok_kept (IsThereTracked tables) table (record {
      there = here;
      found = ap (option_and_then (λ table. if is_some table.tracked then Some table.schema else None)) here.stands ∙ ap (λ test. if test then Some table.schema else None) is;
    })))

pub scalar_kinded : (s : Scope) (tables : List Catalogued) (scalar : Scalar) (answers : List (Answer Typed)) → Sound tables → s.tables ≡ map (λ table. table.schema) tables → AllAnswered s answers
    → Answered s (scalar_with tables scalar answers)
unfolding scalar_with
scalar_kinded s tables scalar answers sound are all it e =
    let shown = λ (table : Catalogued) (version : BoundRowVersion). scalar_column table.schema scalar.source scalar.alias scalar.column version in
    let p = steps (tracked_table tables scalar.version.table) (λ table. version_of table.schema scalar.version.columns (map walked answers) closed >>= (λ version. shown table version)) it e in
    let q = steps (version_of p.came.schema scalar.version.columns (map walked answers) closed) (λ version. shown p.came version) it p.goes in
    let t = (tracked tables sound scalar.version.table).holds p.came p.is in
    let found : table_of s.tables p.came.schema.id ≡ Some p.came.schema = ap (λ ts. table_of ts p.came.schema.id) are ∙ t.there.found in
    column_kinded s p.came.schema scalar.source scalar.alias scalar.column q.came t.there.has (version_kinded s p.came.schema scalar.version.columns answers q.came t.there.has found all q.is) it q.goes
