-- A bound statement is at most as deep as the statement: the forms of statements, one by one.
use Rattle.std.proofs.Common.{ℕ, ◌+◌, ◌==◌, not, Bool, nat_le, nat_lt, is_some, List, [], map, length, Option, Some, None, le_refl}
use Rattle.std.specs.Option.{option_to_list}
use Rattle.ct_types.specs.declared.bound.Bound.{Bound}
use Rattle.ct_types.specs.declared.bound.Bound.TheVariants.{AcceptOption, AlterDatabase, CreateTable, EnableTracking, DisableTracking, TruncateTable, Write, Select, Begin, Commit, Rollback, SetIsolation, SetLockTimeout, SetVariable, Declare}
use Rattle.ct_types.specs.declared.catalogue.Catalogued.{Catalogued}
use Rattle.ct_types.specs.declared.catalogue.Variable.{Variable}
use Rattle.ct_types.specs.declared.entry.Keep.{Keep}
use Rattle.ct_types.specs.declared.expr.Expr.{Expr}
use Rattle.ct_types.specs.declared.expr.ObjectName.{ObjectName}
use Rattle.ct_types.specs.declared.refusal.Refusal.TheVariants.{TooMany, Exists, AlreadyTracked, TrackingOff, TablesTracked, VariableExists}
use Rattle.ct_types.specs.declared.stmt.ColumnDef.{ColumnDef}
use Rattle.ct_types.specs.declared.stmt.DatabaseOption.{DatabaseOption}
use Rattle.ct_types.specs.declared.stmt.DatabaseOption.TheVariants as option
use Rattle.ct_types.specs.declared.stmt.Stmt.{Stmt}
use Rattle.ct_types.specs.declared.stmt.Stmt.TheVariants as stmt
use Rattle.ct_types.specs.declared.stmt.TypeName.{TypeName}
use Rattle.ct_bind_kinds.specs.declared.kind.Kind.{Kind}
use Rattle.ct_bind_kinds.specs.Kinds.{kind_of_type}
use Rattle.ct_types.specs.Answers.{demand, optional}
use Rattle.ct_bind_names.specs.Names.{table_name}
use Rattle.ct_bind_names.specs.Numbers.{column_type}
use Rattle.ct_bind_names.specs.Catalogue.{table_named, existing_table, tracked_table, declared_variable, is_declared}
use Rattle.ct_bind_expr.specs.Places.{row_of}
use Rattle.ct_bind_definition.specs.Definitions.{schema_of, create, enable, disable, defaults, settings, tracked_count, alter_database}
use Rattle.ct_bind.specs.Binding.{kind_of_name, truncate, value_of, set_variable, declare, binding}
use Rattle.ct_bind.specs.Queries.{select}
use Rattle.ct_bind.specs.Writes.{write_of}
use Rattle.ct_types.proofs.AnswersKept.{Kept, ok_kept, err_kept, then_kept, after_kept, demand_kept}
use Rattle.ct_bind_depth_laws.specs.Depth.{deepest, depth_of, bound_depth_of}
use Rattle.ct_bind_depth_laws.specs.Statements.{expressions, bound_expressions, statement_depth, bound_statement_depth}
use Rattle.ct_bind_depth_laws.specs.Laws.{BoundAreNoDeeper}
use Rattle.ct_bind_depth_laws.proofs.Deepest.{deepest_least, below_deepest}
use Rattle.ct_bind_depth_laws.proofs.Operators.{NoDeeper}
use Rattle.ct_bind_depth_laws.proofs.Chains.{NoneDeeper}
use Rattle.ct_bind_depth_laws.proofs.Operands.{Within, AllWithin, GivenNoDeeper, operand_kept, given_kept}
use Rattle.ct_bind_depth_laws.proofs.Writing.{WriteNoDeeper, write_kept}
use Rattle.ct_bind_depth_laws.proofs.Selecting.{SelectNoDeeper, select_kept}

module _ (tables : List Catalogued) (variables : List Variable) (n : ℕ) where
  abbrev BoundNoDeeper : Bound → Type 0
  BoundNoDeeper bound = NoneDeeper n (bound_expressions bound)

  -- ---- variables

  value_kept : (kind : Kind) (x : Expr) → Within n x → Kept (NoDeeper n) (value_of tables variables kind x)
  unfolding value_of
  value_kept kind x within = operand_kept tables variables n kind (row_of []) x within

  set_variable_kept : (name : List ℕ) (x : Expr) → Within n x → Kept BoundNoDeeper (set_variable tables variables name x)
  unfolding set_variable
  set_variable_kept name x within =
      after_kept BoundNoDeeper (declared_variable variables name) _
      (λ at. then_kept (NoDeeper n) BoundNoDeeper (value_of tables variables (kind_of_type at.1) x) _ (value_kept (kind_of_type at.1) x within)
      (λ value below. ok_kept BoundNoDeeper (SetVariable at.0 value) (below, tt)))

  declare_kept : (name : List ℕ) (written : TypeName) (given : Option Expr) → AllWithin n (option_to_list given) → Kept BoundNoDeeper (declare tables variables name written given)
  unfolding declare
  declare_kept name written given within =
      demand_kept BoundNoDeeper (not (is_declared variables name)) (VariableExists name) _
      (λ _. then_kept (GivenNoDeeper n) BoundNoDeeper (optional (value_of tables variables (kind_of_name written)) given) _
      (given_kept tables variables n (value_of tables variables (kind_of_name written)) (value_kept (kind_of_name written)) given within)
      (λ value below. after_kept BoundNoDeeper (column_type written) _ (λ type. ok_kept BoundNoDeeper (Declare name type value) below)))

  -- ---- definitions, and statements on a whole table, which have no expressions

  database_kept : (keep : Option Keep) (given : DatabaseOption) → Kept BoundNoDeeper (alter_database tables keep given)
  unfolding alter_database
  database_kept None (option.TrackingOn options) = after_kept BoundNoDeeper (settings defaults options) _ (λ keep. ok_kept BoundNoDeeper (AlterDatabase (Some keep)) tt)
  database_kept (Some old) (option.TrackingOn options) = err_kept BoundNoDeeper _
  database_kept None option.TrackingOff = err_kept BoundNoDeeper _
  database_kept (Some old) option.TrackingOff = after_kept BoundNoDeeper (demand (tracked_count tables == 0) (TablesTracked (tracked_count tables))) _ (λ _. ok_kept BoundNoDeeper (AlterDatabase None) tt)
  database_kept None (option.Tracking options) = err_kept BoundNoDeeper _
  database_kept (Some old) (option.Tracking options) = after_kept BoundNoDeeper (settings old options) _ (λ keep. ok_kept BoundNoDeeper (AlterDatabase (Some keep)) tt)
  database_kept keep option.AllowSnapshotIsolation = ok_kept BoundNoDeeper AcceptOption tt
  database_kept keep option.ReadCommittedSnapshot = ok_kept BoundNoDeeper AcceptOption tt

  create_kept : (name : ObjectName) (columns : List ColumnDef) (key : Option (List (List ℕ))) → Kept BoundNoDeeper (create tables name columns key)
  unfolding create
  create_kept name columns key =
      after_kept BoundNoDeeper (demand (nat_le (length columns) 64) (TooMany 64)) _
      (λ _. after_kept BoundNoDeeper (demand (nat_lt (length tables) 256) (TooMany 256)) _
      (λ _. after_kept BoundNoDeeper (demand (not (is_some (table_named tables (table_name name)))) (Exists (table_name name))) _
      (λ _. after_kept BoundNoDeeper (schema_of (length tables + 1) (table_name name) columns key) _ (λ schema. ok_kept BoundNoDeeper (CreateTable schema) tt))))

  enable_kept : (keep : Option Keep) (name : ObjectName) (masks : Bool) → Kept BoundNoDeeper (enable tables keep name masks)
  unfolding enable
  enable_kept keep name masks =
      after_kept BoundNoDeeper (existing_table tables name) _
      (λ table. after_kept BoundNoDeeper (demand (not (is_some table.tracked)) (AlreadyTracked (table_name name))) _
      (λ _. after_kept BoundNoDeeper (demand (is_some keep) TrackingOff) _ (λ _. ok_kept BoundNoDeeper (EnableTracking table.schema.id masks) tt)))

  disable_kept : (name : ObjectName) → Kept BoundNoDeeper (disable tables name)
  unfolding disable
  disable_kept name = after_kept BoundNoDeeper (tracked_table tables name) _ (λ table. ok_kept BoundNoDeeper (DisableTracking table.schema.id) tt)

  truncate_kept : (name : ObjectName) → Kept BoundNoDeeper (truncate tables variables name)
  unfolding truncate
  truncate_kept name = after_kept BoundNoDeeper (existing_table tables name) _ (λ table. ok_kept BoundNoDeeper (TruncateTable table.schema.id) tt)

  -- ---- the whole

  bound_kept : (keep : Option Keep) (statement : Stmt) → AllWithin n (expressions statement) → Kept BoundNoDeeper (binding tables keep variables statement)
  unfolding binding
  bound_kept keep (stmt.AlterDatabase name option) within = database_kept keep option
  bound_kept keep (stmt.CreateTable table columns key) within = create_kept table columns key
  bound_kept keep (stmt.EnableTracking table masks) within = enable_kept keep table masks
  bound_kept keep (stmt.DisableTracking table) within = disable_kept table
  bound_kept keep (stmt.TruncateTable table) within = truncate_kept table
  bound_kept keep (stmt.Write context write) within =
      then_kept (WriteNoDeeper tables variables n) BoundNoDeeper (write_of tables variables context write) _ (write_kept tables variables n context write within) (λ bound below. ok_kept BoundNoDeeper (Write bound) below)
  bound_kept keep (stmt.Select query) within =
      then_kept (SelectNoDeeper tables variables n) BoundNoDeeper (select tables variables query) _ (select_kept tables variables n query within) (λ bound below. ok_kept BoundNoDeeper (Select bound) below)
  bound_kept keep stmt.Begin within = ok_kept BoundNoDeeper Begin tt
  bound_kept keep stmt.Commit within = ok_kept BoundNoDeeper Commit tt
  bound_kept keep stmt.Rollback within = ok_kept BoundNoDeeper Rollback tt
  bound_kept keep (stmt.SetIsolation level) within = ok_kept BoundNoDeeper (SetIsolation level) tt
  bound_kept keep stmt.SetLockTimeout within = ok_kept BoundNoDeeper SetLockTimeout tt
  bound_kept keep (stmt.SetVariable name value) within = set_variable_kept name value within.0
  bound_kept keep (stmt.Declare name written value) within = declare_kept name written value within

pub bound_are_no_deeper : BoundAreNoDeeper
unfolding statement_depth bound_statement_depth
bound_are_no_deeper tables keep variables statement bound came =
    let n : ℕ = deepest (map depth_of (expressions statement)) in
    deepest_least bound_depth_of n (bound_expressions bound)
    ((bound_kept tables variables n keep statement (below_deepest depth_of n (expressions statement) (le_refl n))).holds bound came)
