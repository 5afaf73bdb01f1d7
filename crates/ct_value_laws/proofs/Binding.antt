-- What each form of statement is bound to gives representable values, where it gives any.
use Rattle.std.proofs.Common.{◌==◌, ◌+◌, ℕ, not, Bool, nat_le, nat_lt, is_some, List, [], length, Option, Some, None, IfSome}
use Rattle.std.specs.Option.{option_to_list}
use Rattle.ct_types.specs.declared.bound.Bound.{Bound}
use Rattle.ct_types.specs.declared.bound.Bound.TheVariants.{AcceptOption, AlterDatabase, CreateTable, EnableTracking, DisableTracking, TruncateTable, Write, Select, Begin, Commit, Rollback, SetIsolation, SetLockTimeout, SetVariable, Declare}
use Rattle.ct_types.specs.declared.bound.BoundExpr.{BoundExpr}
use Rattle.ct_types.specs.declared.catalogue.Catalogued.{Catalogued}
use Rattle.ct_types.specs.declared.catalogue.Variable.{Variable}
use Rattle.ct_types.specs.declared.entry.Keep.{Keep}
use Rattle.ct_types.specs.declared.expr.Expr.{Expr}
use Rattle.ct_types.specs.declared.expr.ObjectName.{ObjectName}
use Rattle.ct_types.specs.declared.refusal.Refusal.TheVariants.{TooMany, Exists, AlreadyTracked, TrackingOff, TablesTracked, VariableExists}
use Rattle.ct_types.specs.declared.stmt.ColumnDef.{ColumnDef}
use Rattle.ct_types.specs.declared.stmt.DatabaseOption.{DatabaseOption}
use Rattle.ct_types.specs.declared.stmt.DatabaseOption.TheVariants as option
use Rattle.ct_types.specs.declared.stmt.Stmt.{Stmt}
use Rattle.ct_types.specs.declared.stmt.Stmt.TheVariants as stmt
use Rattle.ct_types.specs.declared.stmt.TypeName.{TypeName}
use Rattle.ct_types.specs.Answers.{demand, optional}
use Rattle.ct_types.proofs.AnswersKept.{Kept, ok_kept, err_kept, then_kept, after_kept, demand_kept}
use Rattle.ct_bind_kinds.specs.declared.kind.Kind.{Kind}
use Rattle.ct_bind_kinds.specs.Kinds.{kind_of_type}
use Rattle.ct_bind_names.specs.Names.{table_name}
use Rattle.ct_bind_names.specs.Numbers.{column_type}
use Rattle.ct_bind_names.specs.Catalogue.{table_named, existing_table, tracked_table, declared_variable, is_declared}
use Rattle.ct_bind_expr.specs.Places.{row_of}
use Rattle.ct_bind_expr.specs.Walk.{walk}
use Rattle.ct_bind_definition.specs.Definitions.{schema_of, create, enable, disable, defaults, settings, tracked_count, alter_database}
use Rattle.ct_bind.specs.Binding.{kind_of_name, truncate, value_of, set_variable, declare, binding}
use Rattle.ct_bind.specs.Queries.{select}
use Rattle.ct_bind.specs.Writes.{write_of}
use Rattle.ct_expr.specs.Meaning.{World, on}
use Rattle.ct_write.specs.Rows.{no_row}
use Rattle.ct_value_laws.specs.Values.{HoldRepresentable}
use Rattle.ct_value_laws.specs.Texts.{IsOfCodePoints, AreOfCodePoints, GivesCodePoints}
use Rattle.ct_value_laws.proofs.Forms.{Sound}
use Rattle.ct_value_laws.proofs.Walked.{walked_good, operand_kept}
use Rattle.ct_value_laws.proofs.Writing.{Gives, WriteGives, write_kept}

module _ (w : World) (held : HoldRepresentable w.env.variables.0) where
  -- a value without a row
  abbrev pub Good : BoundExpr → Type 0
  Good x = Sound (on w no_row) x

  abbrev pub GivenGood : Option BoundExpr → Type 0
  GivenGood found = IfSome found Good

  -- what a statement writes, or gives a variable, is representable
  abbrev pub BoundGives : Bound → Type 0
  BoundGives (Write write) = Gives w held write.change
  BoundGives (SetVariable place value) = Good value
  BoundGives (Declare name kind value) = GivenGood value
  BoundGives other = Unit {0}

  module _ (tables : List Catalogued) (variables : List Variable) where
    value_kept : (kind : Kind) (x : Expr) → IsOfCodePoints x → Kept Good (value_of tables variables kind x)
    unfolding value_of
    value_kept kind x texts =
        operand_kept tables variables (on w no_row) tt held kind (walk tables variables x (row_of [])) (walked_good tables variables (on w no_row) tt held (row_of []) x texts)

    set_variable_kept : (name : List ℕ) (x : Expr) → IsOfCodePoints x → Kept BoundGives (set_variable tables variables name x)
    unfolding set_variable
    set_variable_kept name x texts =
        after_kept BoundGives (declared_variable variables name) _
        (λ at. then_kept Good BoundGives (value_of tables variables (kind_of_type at.1) x) _ (value_kept (kind_of_type at.1) x texts) (λ value good. ok_kept BoundGives (SetVariable at.0 value) good))

    given_kept : (kind : Kind) (given : Option Expr) → AreOfCodePoints (option_to_list given) → Kept GivenGood (optional (value_of tables variables kind) given)
    given_kept kind None texts = ok_kept GivenGood None tt
    given_kept kind (Some x) texts = then_kept Good GivenGood (value_of tables variables kind x) _ (value_kept kind x texts.0) (λ value good. ok_kept GivenGood (Some value) good)

    declare_kept : (name : List ℕ) (written : TypeName) (given : Option Expr) → AreOfCodePoints (option_to_list given) → Kept BoundGives (declare tables variables name written given)
    unfolding declare
    declare_kept name written given texts =
        demand_kept BoundGives (not (is_declared variables name)) (VariableExists name) _
        (λ _. then_kept GivenGood BoundGives (optional (value_of tables variables (kind_of_name written)) given) _ (given_kept (kind_of_name written) given texts)
        (λ value good. after_kept BoundGives (column_type written) _ (λ type. ok_kept BoundGives (Declare name type value) good)))

    -- ---- definitions, and statements on a whole table, which give no values

    database_kept : (keep : Option Keep) (given : DatabaseOption) → Kept BoundGives (alter_database tables keep given)
    unfolding alter_database
    database_kept None (option.TrackingOn options) = after_kept BoundGives (settings defaults options) _ (λ keep. ok_kept BoundGives (AlterDatabase (Some keep)) tt)
    database_kept (Some old) (option.TrackingOn options) = err_kept BoundGives _
    database_kept None option.TrackingOff = err_kept BoundGives _
    database_kept (Some old) option.TrackingOff = after_kept BoundGives (demand (tracked_count tables == 0) (TablesTracked (tracked_count tables))) _ (λ _. ok_kept BoundGives (AlterDatabase None) tt)
    database_kept None (option.Tracking options) = err_kept BoundGives _
    database_kept (Some old) (option.Tracking options) = after_kept BoundGives (settings old options) _ (λ keep. ok_kept BoundGives (AlterDatabase (Some keep)) tt)
    database_kept keep option.AllowSnapshotIsolation = ok_kept BoundGives AcceptOption tt
    database_kept keep option.ReadCommittedSnapshot = ok_kept BoundGives AcceptOption tt

    create_kept : (name : ObjectName) (columns : List ColumnDef) (key : Option (List (List ℕ))) → Kept BoundGives (create tables name columns key)
    unfolding create
    create_kept name columns key =
        after_kept BoundGives (demand (nat_le (length columns) 64) (TooMany 64)) _
        (λ _. after_kept BoundGives (demand (nat_lt (length tables) 256) (TooMany 256)) _
        (λ _. after_kept BoundGives (demand (not (is_some (table_named tables (table_name name)))) (Exists (table_name name))) _
        (λ _. after_kept BoundGives (schema_of (length tables + 1) (table_name name) columns key) _ (λ schema. ok_kept BoundGives (CreateTable schema) tt))))

    enable_kept : (keep : Option Keep) (name : ObjectName) (masks : Bool) → Kept BoundGives (enable tables keep name masks)
    unfolding enable
    enable_kept keep name masks =
        after_kept BoundGives (existing_table tables name) _
        (λ table. after_kept BoundGives (demand (not (is_some table.tracked)) (AlreadyTracked (table_name name))) _
        (λ _. after_kept BoundGives (demand (is_some keep) TrackingOff) _ (λ _. ok_kept BoundGives (EnableTracking table.schema.id masks) tt)))

    disable_kept : (name : ObjectName) → Kept BoundGives (disable tables name)
    unfolding disable
    disable_kept name = after_kept BoundGives (tracked_table tables name) _ (λ table. ok_kept BoundGives (DisableTracking table.schema.id) tt)

    truncate_kept : (name : ObjectName) → Kept BoundGives (truncate tables variables name)
    unfolding truncate
    truncate_kept name = after_kept BoundGives (existing_table tables name) _ (λ table. ok_kept BoundGives (TruncateTable table.schema.id) tt)

    -- ---- the whole

    pub bound_kept : (keep : Option Keep) (statement : Stmt) → GivesCodePoints statement → Kept BoundGives (binding tables keep variables statement)
    unfolding binding
    bound_kept keep (stmt.AlterDatabase name option) texts = database_kept keep option
    bound_kept keep (stmt.CreateTable table columns key) texts = create_kept table columns key
    bound_kept keep (stmt.EnableTracking table masks) texts = enable_kept keep table masks
    bound_kept keep (stmt.DisableTracking table) texts = disable_kept table
    bound_kept keep (stmt.TruncateTable table) texts = truncate_kept table
    bound_kept keep (stmt.Write context write) texts =
        then_kept (WriteGives w held tables variables) BoundGives (write_of tables variables context write) _ (write_kept w held tables variables context write texts) (λ bound good. ok_kept BoundGives (Write bound) good)
    bound_kept keep (stmt.Select query) texts = after_kept BoundGives (select tables variables query) _ (λ bound. ok_kept BoundGives (Select bound) tt)
    bound_kept keep stmt.Begin texts = ok_kept BoundGives Begin tt
    bound_kept keep stmt.Commit texts = ok_kept BoundGives Commit tt
    bound_kept keep stmt.Rollback texts = ok_kept BoundGives Rollback tt
    bound_kept keep (stmt.SetIsolation level) texts = ok_kept BoundGives (SetIsolation level) tt
    bound_kept keep stmt.SetLockTimeout texts = ok_kept BoundGives SetLockTimeout tt
    bound_kept keep (stmt.SetVariable name value) texts = set_variable_kept name value texts
    bound_kept keep (stmt.Declare name written value) texts = declare_kept name written value texts
