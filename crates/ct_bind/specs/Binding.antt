-- Binding a statement: what it means in a catalogue and among variables, or the first refusal that a walk over it meets.
-- The forms are T-SQL's; the order of refusals is this project's own.
use Rattle.std.specs.Prelude.{ℕ, not, List, [], Option, Ok}
use Rattle.ct_types.specs.declared.bound.Bound.{Bound}
use Rattle.ct_types.specs.declared.bound.Bound.TheVariants.{TruncateTable, Write, Select, Begin, Commit, Rollback, SetIsolation, SetLockTimeout, SetVariable, Declare}
use Rattle.ct_types.specs.declared.bound.BoundExpr.{BoundExpr}
use Rattle.ct_types.specs.declared.catalogue.Catalogued.{Catalogued}
use Rattle.ct_types.specs.declared.catalogue.Variable.{Variable}
use Rattle.ct_types.specs.declared.entry.Keep.{Keep}
use Rattle.ct_types.specs.declared.expr.Expr.{Expr}
use Rattle.ct_types.specs.declared.expr.ObjectName.{ObjectName}
use Rattle.ct_types.specs.declared.stmt.Stmt.{Stmt}
use Rattle.ct_types.specs.declared.stmt.Stmt.TheVariants as stmt
use Rattle.ct_types.specs.declared.stmt.TypeName.{TypeName}
use Rattle.ct_types.specs.declared.stmt.TypeName.TheVariants as name
use Rattle.ct_types.specs.declared.refusal.Refusal.TheVariants.{VariableExists}
use Rattle.ct_bind_kinds.specs.declared.kind.Kind.{Kind}
use Rattle.ct_bind_kinds.specs.declared.kind.Kind.TheVariants.{Number, Text, Bytes}
use Rattle.ct_bind_kinds.specs.Kinds.{kind_of_type}
use Rattle.ct_types.specs.Answers.{Answer, ◌>>=◌, ◌>>◌, demand, optional}
use Rattle.ct_bind_names.specs.Numbers.{column_type}
use Rattle.ct_bind_names.specs.Catalogue.{existing_table, declared_variable, is_declared}
use Rattle.ct_bind_expr.specs.Places.{of_kind, row_of}
use Rattle.ct_bind_expr.specs.Walk.{walk}
use Rattle.ct_bind.specs.Queries.{select}
use Rattle.ct_bind.specs.Writes.{write_of}
use Rattle.ct_bind_definition.specs.Definitions.{create, enable, disable, alter_database}

-- the kind of a type as it is written
abbrev pub kind_of_name : TypeName → Kind
kind_of_name name.Int = Number
kind_of_name name.BigInt = Number
kind_of_name (name.NVarChar digits) = Text
kind_of_name (name.VarBinary digits) = Bytes

module _ (tables : List Catalogued) (variables : List Variable) where
  unfoldable pub truncate : ObjectName → Answer Bound
  truncate name = do
    table ← existing_table tables name
    Ok (TruncateTable table.schema.id)

  -- a value without a row, of this kind
  unfoldable pub value_of : Kind → Expr → Answer BoundExpr
  value_of kind value = walk tables variables value (row_of []) >>= of_kind kind

  -- the variable, the value, the kinds
  unfoldable pub set_variable : List ℕ → Expr → Answer Bound
  set_variable name value = do
    variable ← declared_variable variables name
    value ← value_of (kind_of_type variable.1) value
    Ok (SetVariable variable.0 value)

  -- the name, the value, the kinds, and the type's length last
  unfoldable pub declare : List ℕ → TypeName → Option Expr → Answer Bound
  declare name kind value = do
    demand (not (is_declared variables name)) (VariableExists name)
    value ← optional (value_of (kind_of_name kind)) value
    kind ← column_type kind
    Ok (Declare name kind value)

  abbrev pub binding_by : Option Keep → Stmt → Answer Bound
  binding_by keep (stmt.AlterDatabase name option) = alter_database tables keep option
  binding_by keep (stmt.CreateTable table columns key) = create tables table columns key
  binding_by keep (stmt.EnableTracking table masks) = enable tables keep table masks
  binding_by keep (stmt.DisableTracking table) = disable tables table
  binding_by keep (stmt.TruncateTable table) = truncate table
  binding_by keep (stmt.Write context write) = write_of tables variables context write >>= (λ bound. Ok (Write bound))
  binding_by keep (stmt.Select query) = select tables variables query >>= (λ bound. Ok (Select bound))
  binding_by keep stmt.Begin = Ok Begin
  binding_by keep stmt.Commit = Ok Commit
  binding_by keep stmt.Rollback = Ok Rollback
  binding_by keep (stmt.SetIsolation level) = Ok (SetIsolation level)
  binding_by keep stmt.SetLockTimeout = Ok SetLockTimeout
  binding_by keep (stmt.SetVariable variable value) = set_variable variable value
  binding_by keep (stmt.Declare variable kind value) = declare variable kind value

-- what a statement comes to
unfoldable pub binding : List Catalogued → Option Keep → List Variable → Stmt → Answer Bound
binding tables keep variables = binding_by tables variables keep
