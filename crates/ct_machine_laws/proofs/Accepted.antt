-- What a write statement comes to is accepted by its table: from what binding promises of it, and the rows that fit.
use Rattle.std.proofs.Common.{◌≡◌, ◌≢◌, ℕ, zero, suc, ◌+◌, ◌-◌, ◌≤◌, ◌<◌, eqb, cond, true, List, [], ◌∷◌, map, Bool, false, Option, Some, None, IfSome, Ok, Err, IfOk, length, refl, sym, subst, ap, ◌∙◌, arith}
use Rattle.std.specs.List.{AllByRecursion, slice_get}
use Rattle.std.specs.Option.{IsSomeAnd, option_map}
use Rattle.std.proofs.lemmas.Option.{slice_get-map, slice_get_within, same_Some}
use Rattle.ct_types.specs.Answers.{Answer, or_refuse}
use Rattle.ct_types.specs.ColumnFit.{has_kind}
use Rattle.ct_types.specs.declared.bound.Bound.{Bound}
use Rattle.ct_types.specs.declared.bound.Bound.TheVariants.{Declare, SetVariable, Write}
use Rattle.ct_types.specs.declared.bound.BoundExpr.{BoundExpr}
use Rattle.ct_types.specs.declared.bound.BoundSet.{BoundSet}
use Rattle.ct_types.specs.declared.bound.RowChange.{RowChange}
use Rattle.ct_types.specs.declared.bound.RowChange.TheVariants.{Insert, Update, Delete}
use Rattle.ct_types.specs.declared.catalogue.Catalogued.{Catalogued}
use Rattle.ct_types.specs.declared.catalogue.Variable.{Variable}
use Rattle.ct_types.specs.declared.expr.Expr.{Expr}
use Rattle.ct_types.specs.declared.refusal.Refusal.TheVariants.{NoVariable}
use Rattle.ct_types.specs.declared.schema.Column.{Column}
use Rattle.ct_types.specs.declared.schema.ColType.{ColType}
use Rattle.ct_types.specs.declared.schema.ColType.TheVariants as type
use Rattle.ct_types.specs.declared.schema.Schema.{Schema}
use Rattle.ct_types.specs.declared.stmt.Stmt.TheVariants as stmt
use Rattle.ct_types.specs.declared.value.Row.{Row}
use Rattle.ct_types.specs.declared.value.Value.{Value}
use Rattle.ct_types.specs.declared.value.Value.TheVariants as v
use Rattle.ct_model.specs.declared.db.Db.{Db}
use Rattle.ct_model.specs.declared.db.Table.{Table}
use Rattle.ct_model.specs.Schemas.{AllHold, RowFits}
use Rattle.ct_model.specs.Tables.{catalogued, table_of}
use Rattle.ct_model.specs.Valid.{IsValid, IsTableValid}
use Rattle.ct_model.proofs.Found.{found_has}
use Rattle.ct_model.proofs.Members.{all_weaken, all_map}
use Rattle.ct_types.proofs.AnswersKept.{Kept, after_kept, found_kept, ok_kept, then_kept}
use Rattle.ct_bind.specs.Binding.{binding, set_variable, value_of}
use Rattle.ct_bind_names.specs.Catalogue.{declared_variable, variable_from}
use Rattle.ct_bind_names.specs.Names.{same}
use Rattle.ct_bind_kinds.specs.declared.kind.Kind.{Kind}
use Rattle.ct_bind_kinds.specs.Kinds.{kind_of_type, AreOfTheirTypes, IsOfKind, AreOfKinds}
use Rattle.ct_bind_kinds.specs.WellFormed.{Scope, kind_of, is_of}
use Rattle.ct_bind_kinds.specs.WellFormed.{table_of as schema_of}
use Rattle.ct_expr.specs.Meaning.{World, on, value}
use Rattle.ct_expr_laws.specs.Laws.{IsSceneOf}
use Rattle.ct_expr_laws.proofs.Types.{values_have_their_type}
use Rattle.ct_bind_kind_laws.specs.Statements.{FitsColumn, FitColumns, IsChange, IsOf, IsSetList, IsWrite, scope_of, table_row}
use Rattle.ct_bind_kind_laws.proofs.Binding.{bound_are_well_formed}
use Rattle.ct_bind_kind_laws.proofs.Columns.{variable_stands}
use Rattle.ct_bind_kind_laws.proofs.Sound.{valid_are_sound}
use Rattle.ct_session.specs.SetDeclare.{with_value}
use Rattle.ct_write.specs.Laws.{EachSuits, IsOfKinds, IsOfTable, SetsColumns, Suits}
use Rattle.ct_write.specs.Rows.{no_row}
use Rattle.ct_machine.specs.Reads.{world_of}
use Rattle.ct_state.specs.Seen.{Seen}
use Rattle.ct_machine_laws.specs.Writes.{WritesSuitTheirTable, SetsSuitTheirVariable, DeclaresSuitTheirVariable}

-- ---- rows

kind_of_held : (t : ColType) (x : Value) → has_kind t x ≡ true → IsOfKind (kind_of_type t) x
kind_of_held type.Int v.Null is = tt
kind_of_held type.BigInt v.Null is = tt
kind_of_held (type.NVarChar most) v.Null is = tt
kind_of_held (type.VarBinary most) v.Null is = tt
kind_of_held type.Int (v.Int n) is = tt
kind_of_held type.BigInt (v.Int n) is = tt
kind_of_held (type.NVarChar most) (v.Text t) is = tt
kind_of_held (type.VarBinary most) (v.Bytes b) is = tt
kind_of_held type.Int (v.Text t) is = absurd cc
kind_of_held type.Int (v.Bytes b) is = absurd cc
kind_of_held type.BigInt (v.Text t) is = absurd cc
kind_of_held type.BigInt (v.Bytes b) is = absurd cc
kind_of_held (type.NVarChar most) (v.Int n) is = absurd cc
kind_of_held (type.NVarChar most) (v.Bytes b) is = absurd cc
kind_of_held (type.VarBinary most) (v.Int n) is = absurd cc
kind_of_held (type.VarBinary most) (v.Text t) is = absurd cc

kinds_held : (columns : List Column) (values : List Value) → AllHold columns values → AreOfKinds (map (λ column. kind_of_type column.kind) columns) values
kinds_held [] [] held = tt
kinds_held [] (x ∷ values) held = absurd held
kinds_held (column ∷ columns) [] held = absurd held
kinds_held (column ∷ columns) (x ∷ values) held = (kind_of_held column.kind x held.0.0, kinds_held columns values held.1)

-- ---- values for columns

if_ok : (P : Value → Type 0) (answer : Answer Value) → ((x : Value) → answer ≡ Ok x → P x) → IfOk answer P
if_ok P (Ok x) told = told x refl
if_ok P (Err refusal) told = tt

module _ (scope : Scope) (w : World) (row : Row) (scene : IsSceneOf scope (on w row)) where
  column_suits : (found : Option Column) (expr : BoundExpr) → IsSomeAnd (option_map (λ column. kind_of_type column.kind) found) (λ kind. is_of kind (kind_of scope expr) ≡ true)
      → IfSome found (λ column. IfOk (value (on w row) expr) (λ x. has_kind column.kind x ≡ true))
  column_suits None expr fits = absurd fits
  column_suits (Some column) expr fits =
      if_ok (λ x. has_kind column.kind x ≡ true) (value (on w row) expr) (λ x came. values_have_their_type scope (on w row) expr column.kind x scene fits came)

  suits : (table : Schema) (id : ℕ) (expr : BoundExpr) → FitsColumn scope table id expr → Suits w table.columns row id expr
  suits table zero expr fits = absurd fits
  suits table (suc n) expr fits =
      let at : n ≡ suc n - 1 = omega arith in
      subst (λ k. IfSome (slice_get table.columns k) (λ column. IfOk (value (on w row) expr) (λ x. has_kind column.kind x ≡ true))) at
      (column_suits (slice_get table.columns n) expr fits)

  each_suits : (table : Schema) (ids : List ℕ) (exprs : List BoundExpr) → FitColumns scope table ids exprs → EachSuits w table.columns row ids exprs
  each_suits table [] [] fit = tt
  each_suits table [] (expr ∷ exprs) fit = absurd fit
  each_suits table (id ∷ ids) [] fit = absurd fit
  each_suits table (id ∷ ids) (expr ∷ exprs) fit = (suits table id expr fit.0, each_suits table ids exprs fit.1)

-- ---- columns of a SET list

column_within : (columns : List Column) (n : ℕ) (found : Option Column) (P : Column → Type 0) → slice_get columns n ≡ found → IsSomeAnd found P → n < length columns
column_within columns n None P is there = absurd there
column_within columns n (Some column) P is there = slice_get_within columns n column is

some_of_mapped : (found : Option Column) (scope : Scope) (expr : BoundExpr) → IsSomeAnd (option_map (λ column. kind_of_type column.kind) found) (λ kind. is_of kind (kind_of scope expr) ≡ true)
    → IsSomeAnd found (λ column. Unit {0})
some_of_mapped None scope expr fits = absurd fits
some_of_mapped (Some column) scope expr fits = tt

id_within : (scope : Scope) (table : Schema) (id : ℕ) (expr : BoundExpr) → FitsColumn scope table id expr → (1 ≤ id) × (id ≤ length table.columns)
id_within scope table zero expr fits = absurd fits
id_within scope table (suc n) expr fits =
    let below : n < length table.columns = column_within table.columns n (slice_get table.columns n) (λ column. Unit {0}) refl (some_of_mapped (slice_get table.columns n) scope expr fits) in
    (omega arith, omega (arith, below))

sets_columns : (scope : Scope) (table : Schema) (sets : List BoundSet) → IsSetList scope table sets → SetsColumns table sets
sets_columns scope table sets is = record {
  some = is.some;
  columns = all_map (λ set. FitsColumn scope table set.column set.value) (λ id. (1 ≤ id) × (id ≤ length table.columns)) (λ (set : BoundSet). set.column)
      (λ set fits. id_within scope table set.column set.value fits) sets is.values;
  no_key = all_map (λ set. AllByRecursion (λ key. key ≢ set.column) table.key) (λ id. AllByRecursion (λ key. key ≢ id) table.key) (λ (set : BoundSet). set.column) (λ set apart. apart) sets is.no_key;
}

-- ---- the table

schema_found : (tables : List Table) (id : ℕ) → schema_of (map (λ table. table.schema) (map catalogued tables)) id ≡ option_map (λ table. table.schema) (table_of tables id)
schema_found [] id = refl
schema_found (table ∷ tables) id = pick (eqb table.schema.id id) _ (table_of tables id) (schema_found tables id)
  where
    pick : (b : Bool) (rest : Option Schema) (more : Option Table) → rest ≡ option_map (λ table. table.schema) more → cond b (Some table.schema) rest ≡ option_map (λ table. table.schema) (cond b (Some table) more)
    pick true rest more e = refl
    pick false rest more e = e

-- a table that is found is valid
pub table_valid : (db : Db) (id : ℕ) (table : Table) → IsValid db → table_of db.tables id ≡ Some table → IsTableValid db.version db.keep table
table_valid db id table valid is =
    let found : IsSomeAnd (table_of db.tables id) (λ t. Unit {0}) = rw is tt in
    subst (λ o. IsSomeAnd o (IsTableValid db.version db.keep)) is
    (found_has (IsTableValid db.version db.keep) (λ t. Unit {0}) (IsTableValid db.version db.keep) (λ t fine there. fine) db.tables id valid.tables found)

-- ---- variables

-- the kinds of variables, told in two steps
pub variables_held : (variables : List Variable) → AreOfTheirTypes variables
    → AreOfKinds (map kind_of_type (map (λ (variable : Variable). variable.kind) variables)) (map (λ (variable : Variable). variable.value) variables)
variables_held [] are = tt
variables_held (variable ∷ more) are = (are.0, variables_held more are.1)

-- ---- changes

module _ (seen : Seen) (of_types : AreOfTheirTypes seen.variables) where
  -- the scene on a row of these columns
  scene_held : (kinds : List Kind) (row : Row) → AreOfKinds kinds row.0 → IsSceneOf (scope_of (map catalogued seen.db.tables) seen.variables kinds) (on (world_of seen) row)
  scene_held kinds row held = record { row = held; variables = variables_held seen.variables of_types }

  module _ (table : Schema) (rows : List Row) (fit : AllByRecursion (RowFits table) rows) where
    change_accepted : (change : RowChange) → IsChange (map catalogued seen.db.tables) seen.variables table change
        → IsOfTable table change × IsOfKinds (world_of seen) table rows change
    change_accepted (Insert columns tuples) is = (
      tt,
      all_weaken (FitColumns (scope_of (map catalogued seen.db.tables) seen.variables []) table columns) (EachSuits (world_of seen) table.columns no_row columns)
          (λ tuple fits. each_suits (scope_of (map catalogued seen.db.tables) seen.variables []) (world_of seen) no_row (scene_held [] no_row tt) table columns tuple fits) tuples is.1,
    )
    change_accepted (Update sets filter) is = (
      sets_columns (scope_of (map catalogued seen.db.tables) seen.variables (table_row table)) table sets is.0,
      all_weaken (RowFits table) (λ row. AllByRecursion (λ set. Suits (world_of seen) table.columns row set.column set.value) sets)
          (λ row fits. all_weaken (λ set. FitsColumn (scope_of (map catalogued seen.db.tables) seen.variables (table_row table)) table set.column set.value) (λ set. Suits (world_of seen) table.columns row set.column set.value)
          (λ set suited. suits (scope_of (map catalogued seen.db.tables) seen.variables (table_row table)) (world_of seen) row (scene_held (table_row table) row (kinds_held table.columns row.0 fits)) table set.column set.value suited)
          sets is.0.values) rows fit,
    )
    change_accepted (Delete filter) is = (tt, tt)

pub writes_suit_their_table : WritesSuitTheirTable
writes_suit_their_table seen keep context write bound table valid of_types some came is =
    let db = seen.db in
    let well : IsWrite (map catalogued db.tables) seen.variables bound =
    bound_are_well_formed (map catalogued db.tables) keep seen.variables (stmt.Write context write) (Write bound) (valid_are_sound db valid) some came in
    let same : well.table ≡ table.schema =
    same_Some well.table table.schema (sym well.is ∙ schema_found db.tables bound.table ∙ ap (option_map (λ (t : Table). t.schema)) is) in
    change_accepted seen of_types table.schema table.rows (table_valid db bound.table table valid is).rows bound.change
    (subst (λ schema. IsChange (map catalogued db.tables) seen.variables schema bound.change) same well.change)

-- ---- SET and DECLARE

-- what an expression that names no column comes to, where it may stand for a type
value_held : (seen : Seen) (kind : ColType) (expr : BoundExpr) (v : Value) → AreOfTheirTypes seen.variables
    → IsOf (scope_of (map catalogued seen.db.tables) seen.variables []) (kind_of_type kind) expr → value (on (world_of seen) no_row) expr ≡ Ok v → IsOfKind (kind_of_type kind) v
value_held seen kind expr v of_types is came =
    kind_of_held kind v (values_have_their_type (scope_of (map catalogued seen.db.tables) seen.variables []) (on (world_of seen) no_row) expr kind v (scene_held seen of_types [] no_row tt) is came)

pub declares_suit_their_variable : DeclaresSuitTheirVariable
declares_suit_their_variable seen keep name written type expr kind bound v valid of_types came is =
    value_held seen kind bound v of_types
    (bound_are_well_formed (map catalogued seen.db.tables) keep seen.variables (stmt.Declare name type expr) (Declare written kind (Some bound)) (valid_are_sound seen.db valid) tt came) is

-- the variable that SET names stands at the place that it is bound to
abbrev SetsAt : List Variable → List ℕ → Bound → Type 0
SetsAt variables name (SetVariable place value) = (kind : ColType) × (variable_from name 0 variables ≡ Some (place, kind))
SetsAt variables name bound = Unit {0}

set_kept : (tables : List Catalogued) (variables : List Variable) (name : List ℕ) (expr : Expr) → Kept (SetsAt variables name) (set_variable tables variables name expr)
unfolding set_variable declared_variable
set_kept tables variables name expr =
    then_kept (λ found. variable_from name 0 variables ≡ Some found) (SetsAt variables name) (or_refuse (variable_from name 0 variables) (NoVariable name)) _
    (found_kept (λ found. variable_from name 0 variables ≡ Some found) (variable_from name 0 variables) (NoVariable name) (λ found e. e))
    (λ found stands. after_kept (SetsAt variables name) (value_of tables variables (kind_of_type found.1) expr) _
    (λ value. ok_kept (SetsAt variables name) (SetVariable found.0 value) (found.1, stands)))

-- the kind at the place of a name is that of the variable there
kind_there : (found : Option Variable) (kind : ColType) (P : ColType → Type 0) → option_map (λ (variable : Variable). variable.kind) found ≡ Some kind → IsSomeAnd found (λ variable. P variable.kind) → P kind
kind_there None kind P is there = absurd there
kind_there (Some variable) kind P is there = let same : variable.kind ≡ kind = cc in subst P same there

value_set : (variables : List Variable) (name : List ℕ) (at place : ℕ) (kind : ColType) (v : Value) → variable_from name at variables ≡ Some (place, kind)
    → AreOfTheirTypes variables → IsOfKind (kind_of_type kind) v → AreOfTheirTypes (with_value variables name v)
unfolding variable_from
value_set [] name at place kind v is are held = absurd cc
value_set (variable ∷ more) name at place kind v is are held = step (same variable.name name) is (λ e. value_set more name (at + 1) place kind v e are.1 held)
  where
    step : (b : Bool) → cond b (Some (at, variable.kind)) (variable_from name (at + 1) more) ≡ Some (place, kind)
        → (variable_from name (at + 1) more ≡ Some (place, kind) → AreOfTheirTypes (with_value more name v))
        → AreOfTheirTypes (cond b (record variable { value = v } ∷ more) (variable ∷ with_value more name v))
    step true e rest =
        let same : variable.kind ≡ kind = ap (λ (p : ℕ × ColType). p.1) (same_Some (at, variable.kind) (place, kind) e) in
        (subst (λ (kind : ColType). IsOfKind (kind_of_type kind) v) (sym same) held, are.1)
    step false e rest = (are.0, rest e)

pub sets_suit_their_variable : SetsSuitTheirVariable
unfolding binding
sets_suit_their_variable seen keep name expr place bound v valid of_types came is =
    let tables = map catalogued seen.db.tables in
    let at : (kind : ColType) × (variable_from name 0 seen.variables ≡ Some (place, kind)) = (set_kept tables seen.variables name expr).holds (SetVariable place bound) came in
    let assigned : IsSomeAnd (slice_get seen.variables place) (λ variable. IsOf (scope_of tables seen.variables []) (kind_of_type variable.kind) bound) =
    bound_are_well_formed tables keep seen.variables (stmt.SetVariable name expr) (SetVariable place bound) (valid_are_sound seen.db valid) tt came in
    let stands : slice_get (map (λ (variable : Variable). variable.kind) seen.variables) place ≡ Some at.0 =
    variable_stands name (map (λ (variable : Variable). variable.kind) seen.variables) [] 0 seen.variables (place, at.0) refl refl at.1 in
    let kind_is : IsOf (scope_of tables seen.variables []) (kind_of_type at.0) bound =
    kind_there (slice_get seen.variables place) at.0 (λ kind. IsOf (scope_of tables seen.variables []) (kind_of_type kind) bound)
    (sym (slice_get-map (λ (variable : Variable). variable.kind) seen.variables place) ∙ stands) assigned in
    value_set seen.variables name 0 place at.0 v at.1 of_types (value_held seen at.0 bound v of_types kind_is is)
