-- What a statement refuses of NoColumn, Ambiguous and TypeClash.
use Rattle.std.proofs.Common.{ℕ, not, List, [], Option}
use Rattle.ct_types.specs.declared.catalogue.Catalogued.{Catalogued}
use Rattle.ct_types.specs.declared.catalogue.Variable.{Variable}
use Rattle.ct_types.specs.declared.entry.Keep.{Keep}
use Rattle.ct_types.specs.declared.expr.Expr.{Expr}
use Rattle.ct_types.specs.declared.refusal.Refusal.{Refusal}
use Rattle.ct_types.specs.declared.refusal.Refusal.TheVariants.{NoVariable, VariableExists}
use Rattle.ct_types.specs.declared.stmt.Stmt.{Stmt}
use Rattle.ct_types.specs.declared.stmt.Stmt.TheVariants as stmt
use Rattle.ct_types.specs.declared.stmt.TypeName.{TypeName}
use Rattle.ct_types.specs.Answers.{optional}
use Rattle.ct_types.proofs.AnswersCaused.{Caused, ok_caused, then_caused, after_caused, met_caused, or_caused}
use Rattle.ct_bind_kinds.specs.declared.kind.Kind.{Kind}
use Rattle.ct_bind_kinds.specs.Kinds.{kind_of_type}
use Rattle.ct_bind_names.specs.Catalogue.{declared_variable, is_declared, variable_from}
use Rattle.ct_bind_names.specs.Numbers.{column_type}
use Rattle.ct_bind_expr.specs.Places.{row_of}
use Rattle.ct_bind.specs.Binding.{kind_of_name, value_of, set_variable, declare, binding_by, binding}
use Rattle.ct_bind.specs.Queries.{select}
use Rattle.ct_bind.specs.Writes.{write_of}
use Rattle.ct_bind_place_laws.specs.Laws.{StatementsHaveCauses}
use Rattle.ct_bind_place_laws.specs.Statements.{Refuses, StatementRefuses}
use Rattle.ct_bind_place_laws.proofs.Definitions.{type_by, create_by, enable_by, disable_by, truncate_by, alter_by}
use Rattle.ct_bind_place_laws.proofs.Queries.{select_by}
use Rattle.ct_bind_place_laws.proofs.Sources.{Said, for_that, kind_by, optional_by}
use Rattle.ct_bind_place_laws.proofs.Writes.{write_by}

variable_by : {Cause : Refusal → Type 0} (variables : List Variable) (name : List ℕ) → Caused (Said Cause) (declared_variable variables name)
unfolding declared_variable
variable_by variables name = or_caused (variable_from name 0 variables) (NoVariable name) (λ none is. absurd is)

module _ (tables : List Catalogued) (variables : List Variable) where
  value_by : (kind : Kind) (x : Expr) → Caused (Said (Refuses tables variables (row_of []) kind x)) (value_of tables variables kind x)
  unfolding value_of
  value_by kind x = kind_by tables variables (row_of []) kind x

  set_by : (name : List ℕ) (value : Expr) → Caused (Said (StatementRefuses tables variables (stmt.SetVariable name value))) (set_variable tables variables name value)
  unfolding set_variable
  set_by name value =
      after_caused (declared_variable variables name) _ (variable_by variables name)
      (λ at is_at. then_caused (value_of tables variables (kind_of_type at.1) value) _
      (for_that (value_of tables variables (kind_of_type at.1) value) (λ refusal cause. (at, is_at, cause)) (value_by (kind_of_type at.1) value)) (λ bound. ok_caused _))

  declare_by : (name : List ℕ) (kind : TypeName) (value : Option Expr) → Caused (Said (StatementRefuses tables variables (stmt.Declare name kind value))) (declare tables variables name kind value)
  unfolding declare
  declare_by name kind value =
      met_caused (not (is_declared variables name)) (VariableExists name) _ (λ e is. absurd is)
      (λ free. then_caused (optional (value_of tables variables (kind_of_name kind)) value) _
      (optional_by tables variables (row_of []) (kind_of_name kind) (value_of tables variables (kind_of_name kind)) (value_by (kind_of_name kind)) value)
      (λ bound. then_caused (column_type kind) _ (type_by kind) (λ type. ok_caused _)))

  statement_by : (keep : Option Keep) (statement : Stmt) → Caused (Said (StatementRefuses tables variables statement)) (binding_by tables variables keep statement)
  statement_by keep (stmt.Write context written) = then_caused (write_of tables variables context written) _ (write_by tables variables context written) (λ bound. ok_caused _)
  statement_by keep (stmt.Select query) = then_caused (select tables variables query) _ (select_by tables variables query) (λ bound. ok_caused _)
  statement_by keep (stmt.SetVariable name value) = set_by name value
  statement_by keep (stmt.Declare name kind value) = declare_by name kind value
  statement_by keep (stmt.AlterDatabase database option) = alter_by tables keep option
  statement_by keep (stmt.CreateTable table columns key) = create_by tables table columns key
  statement_by keep (stmt.EnableTracking table masks) = enable_by tables keep table masks
  statement_by keep (stmt.DisableTracking table) = disable_by tables table
  statement_by keep (stmt.TruncateTable table) = truncate_by tables variables table
  statement_by keep stmt.Begin = ok_caused _
  statement_by keep stmt.Commit = ok_caused _
  statement_by keep stmt.Rollback = ok_caused _
  statement_by keep (stmt.SetIsolation level) = ok_caused _
  statement_by keep stmt.SetLockTimeout = ok_caused _

pub statements_have_causes : StatementsHaveCauses
unfolding binding
statements_have_causes tables keep variables statement refusal e is = (statement_by tables variables keep statement).holds refusal e is
