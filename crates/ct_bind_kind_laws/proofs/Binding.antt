-- That what binding answers is well formed: the forms of statements, one by one.
use Rattle.std.proofs.Common.{◌≡◌, ℕ, ◌+◌, ◌==◌, not, Bool, true, nat_le, nat_lt, List, [], map, length, slice_get, Option, Some, None, IfSome, is_some, refl, sym, ap, subst, ◌∙◌}
use Rattle.std.specs.Option.{option_map, IsNone, IsSomeAnd}
use Rattle.std.proofs.lemmas.Bool.{not-true}
use Rattle.std.proofs.lemmas.Option.{slice_get-map}
use Rattle.ct_types.specs.declared.bound.Bound.TheVariants.{AcceptOption, AlterDatabase, CreateTable, EnableTracking, DisableTracking, TruncateTable, Write, Select, Begin, Commit, Rollback, SetIsolation, SetLockTimeout, SetVariable, Declare}
use Rattle.ct_types.specs.declared.bound.BoundExpr.{BoundExpr}
use Rattle.ct_types.specs.declared.catalogue.Catalogued.{Catalogued}
use Rattle.ct_types.specs.declared.catalogue.Variable.{Variable}
use Rattle.ct_types.specs.declared.entry.Keep.{Keep}
use Rattle.ct_types.specs.declared.expr.Expr.{Expr}
use Rattle.ct_types.specs.declared.expr.ObjectName.{ObjectName}
use Rattle.ct_types.specs.declared.refusal.Refusal.TheVariants.{BadTable, TooMany, Exists, AlreadyTracked, TrackingOff, TablesTracked, VariableExists, NoVariable}
use Rattle.ct_types.specs.declared.schema.ColType.{ColType}
use Rattle.ct_types.specs.declared.stmt.ColumnDef.{ColumnDef}
use Rattle.ct_types.specs.declared.stmt.DatabaseOption.{DatabaseOption}
use Rattle.ct_types.specs.declared.stmt.DatabaseOption.TheVariants as option
use Rattle.ct_types.specs.declared.stmt.Stmt.{Stmt}
use Rattle.ct_types.specs.declared.stmt.Stmt.TheVariants as stmt
use Rattle.ct_types.specs.declared.stmt.TypeName.{TypeName}
use Rattle.ct_types.specs.declared.stmt.TypeName.TheVariants as name
use Rattle.ct_bind_kinds.specs.declared.kind.Kind.{Kind}
use Rattle.ct_bind_kinds.specs.declared.kind.Kind.TheVariants.{Number, Text, Bytes}
use Rattle.ct_bind_kinds.specs.Kinds.{kind_of_type}
use Rattle.ct_bind_kinds.specs.WellFormed.{Scope, kind_of, is_of}
use Rattle.ct_types.specs.Answers.{demand, or_refuse, optional}
use Rattle.ct_bind_names.specs.Names.{table_name}
use Rattle.ct_bind_names.specs.Numbers.{within, column_type}
use Rattle.ct_bind_names.specs.Catalogue.{table_named, existing_table, tracked_table, variable_from, declared_variable, is_declared}
use Rattle.ct_bind_expr.specs.Places.{row_of}
use Rattle.ct_bind_expr.specs.Walk.{walk}
use Rattle.ct_bind_definition.specs.Definitions.{schema_of, create, enable, disable, defaults, settings, tracked_count, alter_database}
use Rattle.ct_bind.specs.Binding.{kind_of_name, truncate, value_of, set_variable, declare, binding}
use Rattle.ct_bind.specs.Queries.{select}
use Rattle.ct_bind.specs.Writes.{write_of}
use Rattle.ct_bind_kind_laws.specs.Laws.{Sound, Shows, IsWritten, IsWellFormed, BoundAreWellFormed}
use Rattle.ct_bind_kind_laws.specs.Statements.{IsOf, scope_of, IsWrite}
use Rattle.ct_bind_kind_laws.specs.Queries.{IsSelect}
use Rattle.ct_types.proofs.AnswersTaken.{there}
use Rattle.ct_bind_kind_laws.proofs.Operators.{fits}
use Rattle.ct_bind_kind_laws.proofs.Columns.{variable_stands}
use Rattle.ct_types.proofs.AnswersKept.{Kept, ok_kept, err_kept, then_kept, after_kept, demand_kept, optional_kept}
use Rattle.ct_bind_kind_laws.proofs.Targets.{type_fits}
use Rattle.ct_bind_kind_laws.proofs.Versions.{IsThere, IsThereTracked, existing, tracked}
use Rattle.ct_bind_kind_laws.proofs.Writing.{operand_kept, walked, write_kept}
use Rattle.ct_bind_kind_laws.proofs.Selecting.{select_kept}

-- ---- variables

-- the type that is written has the kind that is seen before its length is
type_kept : (written : TypeName) → Kept (λ type. kind_of_name written ≡ kind_of_type type) (column_type written)
unfolding column_type
type_kept name.Int = ok_kept (λ type. Number ≡ kind_of_type type) _ refl
type_kept name.BigInt = ok_kept (λ type. Number ≡ kind_of_type type) _ refl
type_kept (name.NVarChar digits) = after_kept (λ type. Text ≡ kind_of_type type) (or_refuse (within 1 4000 digits) (BadTable 4)) _ (λ n. ok_kept (λ type. Text ≡ kind_of_type type) _ refl)
type_kept (name.VarBinary digits) = after_kept (λ type. Bytes ≡ kind_of_type type) (or_refuse (within 1 8000 digits) (BadTable 4)) _ (λ n. ok_kept (λ type. Bytes ≡ kind_of_type type) _ refl)

no_row : Shows (row_of []) []
no_row = record { others = []; sources = refl; outputs = tt }

written_fits : (written : TypeName) (found : Option Kind) → fits (kind_of_name written) found ≡ true → is_of (kind_of_name written) found ≡ true
written_fits name.Int found e = e
written_fits name.BigInt found e = e
written_fits (name.NVarChar digits) found e = e
written_fits (name.VarBinary digits) found e = e

with_type : (scope : Scope) (written type : Kind) (value : Option BoundExpr) → written ≡ type → IfSome value (IsOf scope written) → IfSome value (IsOf scope type)
with_type scope written type None same holds = tt
with_type scope written type (Some value) same holds = subst (λ kind. IsOf scope kind value) same holds

module _ (tables : List Catalogued) (variables : List Variable) (sound : Sound tables) where
  value_kept : (kind : Kind) (e : Expr) → Kept (λ value. fits kind (kind_of (scope_of tables variables []) value) ≡ true) (value_of tables variables kind e)
  unfolding value_of
  value_kept kind e = operand_kept (scope_of tables variables []) kind (walk tables variables e (row_of [])) (walked tables variables sound [] (row_of []) no_row e)

  assigned : (found : Option Variable) (type : ColType) (value : BoundExpr) → option_map (λ variable. variable.kind) found ≡ Some type → is_of (kind_of_type type) (kind_of (scope_of tables variables []) value) ≡ true
      → IsSomeAnd found (λ variable. IsOf (scope_of tables variables []) (kind_of_type variable.kind) value)
  assigned None type value is fit = absurd cc
  assigned (Some variable) type value is fit =
      let same : type ≡ variable.kind = cc in
      subst (λ (type : ColType). IsOf (scope_of tables variables []) (kind_of_type type) value) same fit

  set_variable_kept : (name : List ℕ) (e : Expr) → Kept (IsWellFormed tables variables) (set_variable tables variables name e)
  unfolding set_variable declared_variable
  set_variable_kept name e =
      then_kept (λ at. slice_get (map (λ (variable : Variable). variable.kind) variables) at.0 ≡ Some at.1) (IsWellFormed tables variables) (declared_variable variables name) _
      (record { holds = λ at is. variable_stands name (map (λ (variable : Variable). variable.kind) variables) [] 0 variables at refl refl (there (variable_from name 0 variables) (NoVariable name) at is) })
      (λ at stands. then_kept (λ value. fits (kind_of_type at.1) (kind_of (scope_of tables variables []) value) ≡ true) (IsWellFormed tables variables) (value_of tables variables (kind_of_type at.1) e) _ (value_kept (kind_of_type at.1) e)
      (λ value fit. ok_kept (IsWellFormed tables variables) (SetVariable at.0 value)
      (assigned (slice_get variables at.0) at.1 value (sym (slice_get-map (λ (variable : Variable). variable.kind) variables at.0) ∙ stands) (type_fits at.1 (kind_of (scope_of tables variables []) value) fit))))

  declare_kept : (name : List ℕ) (written : TypeName) (given : Option Expr) → Kept (IsWellFormed tables variables) (declare tables variables name written given)
  unfolding declare
  declare_kept name written given =
      let scope : Scope = scope_of tables variables [] in
      demand_kept (IsWellFormed tables variables) (not (is_declared variables name)) (VariableExists name) _
      (λ _. then_kept (λ found. IfSome found (IsOf scope (kind_of_name written))) (IsWellFormed tables variables) (optional (value_of tables variables (kind_of_name written)) given) _
      (optional_kept (IsOf scope (kind_of_name written)) (value_of tables variables (kind_of_name written))
      (λ e. record { holds = λ value came. written_fits written (kind_of scope value) ((value_kept (kind_of_name written) e).holds value came) }) given)
      (λ value holds. then_kept (λ type. kind_of_name written ≡ kind_of_type type) (IsWellFormed tables variables) (column_type written) _ (type_kept written)
      (λ type same. ok_kept (IsWellFormed tables variables) (Declare name type value) (with_type scope (kind_of_name written) (kind_of_type type) value same holds))))

  -- ---- definitions, and statements on a whole table

  database_kept : (keep : Option Keep) (given : DatabaseOption) → Kept (IsWellFormed tables variables) (alter_database tables keep given)
  unfolding alter_database
  database_kept None (option.TrackingOn options) = after_kept (IsWellFormed tables variables) (settings defaults options) _ (λ keep. ok_kept (IsWellFormed tables variables) (AlterDatabase (Some keep)) tt)
  database_kept (Some old) (option.TrackingOn options) = err_kept (IsWellFormed tables variables) _
  database_kept None option.TrackingOff = err_kept (IsWellFormed tables variables) _
  database_kept (Some old) option.TrackingOff =
      after_kept (IsWellFormed tables variables) (demand (tracked_count tables == 0) (TablesTracked (tracked_count tables))) _ (λ _. ok_kept (IsWellFormed tables variables) (AlterDatabase None) tt)
  database_kept None (option.Tracking options) = err_kept (IsWellFormed tables variables) _
  database_kept (Some old) (option.Tracking options) = after_kept (IsWellFormed tables variables) (settings old options) _ (λ keep. ok_kept (IsWellFormed tables variables) (AlterDatabase (Some keep)) tt)
  database_kept keep option.AllowSnapshotIsolation = ok_kept (IsWellFormed tables variables) AcceptOption tt
  database_kept keep option.ReadCommittedSnapshot = ok_kept (IsWellFormed tables variables) AcceptOption tt

  create_kept : (name : ObjectName) (columns : List ColumnDef) (key : Option (List (List ℕ))) → Kept (IsWellFormed tables variables) (create tables name columns key)
  unfolding create
  create_kept name columns key =
      after_kept (IsWellFormed tables variables) (demand (nat_le (length columns) 64) (TooMany 64)) _
      (λ _. after_kept (IsWellFormed tables variables) (demand (nat_lt (length tables) 256) (TooMany 256)) _
      (λ _. after_kept (IsWellFormed tables variables) (demand (not (is_some (table_named tables (table_name name)))) (Exists (table_name name))) _
      (λ _. after_kept (IsWellFormed tables variables) (schema_of (length tables + 1) (table_name name) columns key) _ (λ schema. ok_kept (IsWellFormed tables variables) (CreateTable schema) tt))))

  enable_kept : (keep : Option Keep) (name : ObjectName) (masks : Bool) → Kept (IsWellFormed tables variables) (enable tables keep name masks)
  unfolding enable
  enable_kept keep name masks =
      then_kept (IsThere tables) (IsWellFormed tables variables) (existing_table tables name) _ (existing tables sound name)
      (λ table here. demand_kept (IsWellFormed tables variables) (not (is_some table.tracked)) (AlreadyTracked (table_name name)) _
      (λ free. after_kept (IsWellFormed tables variables) (demand (is_some keep) TrackingOff) _
      (λ _. ok_kept (IsWellFormed tables variables) (EnableTracking table.schema.id masks)
      (subst (λ (found : Option Catalogued). IsSomeAnd found (λ table. IsNone table.tracked)) (sym here.stands) (not-true (is_some table.tracked) free)))))

  disable_kept : (name : ObjectName) → Kept (IsWellFormed tables variables) (disable tables name)
  unfolding disable
  disable_kept name =
      then_kept (IsThereTracked tables) (IsWellFormed tables variables) (tracked_table tables name) _ (tracked tables sound name)
      (λ table here. ok_kept (IsWellFormed tables variables) (DisableTracking table.schema.id) (ap is_some here.found))

  truncate_kept : (name : ObjectName) → Kept (IsWellFormed tables variables) (truncate tables variables name)
  unfolding truncate
  truncate_kept name =
      then_kept (IsThere tables) (IsWellFormed tables variables) (existing_table tables name) _ (existing tables sound name)
      (λ table here. ok_kept (IsWellFormed tables variables) (TruncateTable table.schema.id) (ap is_some here.stands))

  -- ---- the whole

  bound_kept : (keep : Option Keep) (statement : Stmt) → IsWritten statement → Kept (IsWellFormed tables variables) (binding tables keep variables statement)
  unfolding binding
  bound_kept keep (stmt.AlterDatabase name option) is = database_kept keep option
  bound_kept keep (stmt.CreateTable table columns key) is = create_kept table columns key
  bound_kept keep (stmt.EnableTracking table masks) is = enable_kept keep table masks
  bound_kept keep (stmt.DisableTracking table) is = disable_kept table
  bound_kept keep (stmt.TruncateTable table) is = truncate_kept table
  bound_kept keep (stmt.Write context write) is =
      then_kept (IsWrite tables variables) (IsWellFormed tables variables) (write_of tables variables context write) _ (write_kept tables variables sound context write is) (λ bound fine. ok_kept (IsWellFormed tables variables) (Write bound) fine)
  bound_kept keep (stmt.Select query) is =
      then_kept (IsSelect tables variables) (IsWellFormed tables variables) (select tables variables query) _ (select_kept tables variables sound query) (λ bound fine. ok_kept (IsWellFormed tables variables) (Select bound) fine)
  bound_kept keep stmt.Begin is = ok_kept (IsWellFormed tables variables) Begin tt
  bound_kept keep stmt.Commit is = ok_kept (IsWellFormed tables variables) Commit tt
  bound_kept keep stmt.Rollback is = ok_kept (IsWellFormed tables variables) Rollback tt
  bound_kept keep (stmt.SetIsolation level) is = ok_kept (IsWellFormed tables variables) (SetIsolation level) tt
  bound_kept keep stmt.SetLockTimeout is = ok_kept (IsWellFormed tables variables) SetLockTimeout tt
  bound_kept keep (stmt.SetVariable name value) is = set_variable_kept name value
  bound_kept keep (stmt.Declare name written value) is = declare_kept name written value

pub bound_are_well_formed : BoundAreWellFormed
bound_are_well_formed tables keep variables statement bound sound is came = (bound_kept tables variables sound keep statement is).holds bound came
