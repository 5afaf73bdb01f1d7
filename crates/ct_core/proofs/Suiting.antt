-- What binding answers suits where the sentence stands: SET names a variable that is there, DECLARE one that is not, and what may not
-- stand in a transaction does not.
use Rattle.std.proofs.Common.{◌≡◌, ℕ, ◌+◌, ◌==◌, not, Bool, true, false, ◌||◌, nat_le, nat_lt, cond, List, [], ◌∷◌, length, Option, Some, None, Result, Ok, Err, IfOk, is_some, refl, ap, ◌∙◌}
use Rattle.ct_types.specs.Answers.{Gives, demand, optional}
use Rattle.ct_types.proofs.AnswersKept.{Kept, ok_kept, err_kept, then_kept, after_kept, demand_kept}
use Rattle.ct_types.proofs.AnswersTaken.{there}
use Rattle.ct_types.specs.declared.bound.Bound.{Bound}
use Rattle.ct_types.specs.declared.bound.Bound.TheVariants.{AcceptOption, AlterDatabase, CreateTable, EnableTracking, DisableTracking, TruncateTable, Write, Select, Begin, Commit, Rollback, SetIsolation, SetLockTimeout, SetVariable, Declare}
use Rattle.ct_types.specs.declared.catalogue.Catalogued.{Catalogued}
use Rattle.ct_types.specs.declared.catalogue.Variable.{Variable}
use Rattle.ct_types.specs.declared.entry.Keep.{Keep}
use Rattle.ct_types.specs.declared.refusal.Refusal.{Refusal}
use Rattle.ct_types.specs.declared.refusal.Refusal.TheVariants.{TooMany, Exists, AlreadyTracked, TrackingOff, TablesTracked, VariableExists, NoVariable, InTransaction}
use Rattle.ct_types.specs.declared.schema.ColType.{ColType}
use Rattle.ct_types.specs.declared.stmt.DatabaseOption.{DatabaseOption}
use Rattle.ct_types.specs.declared.stmt.DatabaseOption.TheVariants as option
use Rattle.ct_types.specs.declared.stmt.Stmt.{Stmt}
use Rattle.ct_types.specs.declared.stmt.Stmt.TheVariants as stmt
use Rattle.ct_bind_kinds.specs.Kinds.{kind_of_type}
use Rattle.ct_bind_names.specs.Names.{same, table_name}
use Rattle.ct_bind_names.specs.Numbers.{column_type}
use Rattle.ct_bind_names.specs.Catalogue.{table_named, existing_table, tracked_table, variable_from, declared_variable, is_declared}
use Rattle.ct_bind_definition.specs.Definitions.{schema_of, create, enable, disable, defaults, settings, tracked_count, alter_database}
use Rattle.ct_bind.specs.Binding.{kind_of_name, truncate, value_of, set_variable, declare, binding}
use Rattle.ct_bind.specs.Queries.{select}
use Rattle.ct_bind.specs.Writes.{write_of}
use Rattle.ct_machine.specs.Reads.{catalogue}
use Rattle.ct_state.specs.Seen.{Seen}
use Rattle.ct_session.specs.Sessions.{is_open}
use Rattle.ct_session.specs.declared.tran.Tran.{Tran}
use Rattle.ct_session.specs.declared.tran.Tran.TheVariants as tran
use Rattle.ct_machine.specs.Decide.{allowed}
use Rattle.ct_core.specs.Suits.{Suits, bound_of}

-- ---- variables

-- a variable that is found is declared
found_or_more : (found : Bool) (at : ℕ × ColType) (rest : Option (ℕ × ColType)) (more : Bool) → more ≡ is_some rest → (found || more) ≡ is_some (cond found (Some at) rest)
found_or_more true at rest more e = refl
found_or_more false at rest more e = e

declared_is : (name : List ℕ) (at : ℕ) (variables : List Variable) → is_declared variables name ≡ is_some (variable_from name at variables)
unfolding variable_from is_declared
declared_is name at [] = refl
declared_is name at (variable ∷ more) = found_or_more (same variable.name name) (at, variable.kind) (variable_from name (at + 1) more) (is_declared more name) (declared_is name (at + 1) more)

-- what a statement is bound to suits it, where it may stand
abbrev IsWellBound : Tran → List Variable → Stmt → Bound → Type 0
IsWellBound t variables it bound = allowed t it ≡ Ok tt → Suits t variables it bound

-- what may stand outside transactions alone stands where none is open
closed : (t : Tran) → demand (not (is_open t)) InTransaction ≡ Ok tt → t ≡ tran.None
closed tran.None e = refl
closed tran.Committed e = absurd cc
closed tran.Snapshot e = absurd cc
closed (tran.Viewed view) e = absurd cc

module _ (t : Tran) (tables : List Catalogued) (variables : List Variable) where
  abbrev IsThere : List ℕ → Type 0
  IsThere name = is_declared variables name ≡ true

  declared_there : (name : List ℕ) → Kept (λ at. IsThere name) (declared_variable variables name)
  unfolding declared_variable
  declared_there name = record { holds = λ at e. declared_is name 0 variables ∙ ap is_some (there (variable_from name 0 variables) (NoVariable name) at e) }

  module _ (it : Stmt) where
    abbrev Names : Bound → Type 0
    Names = IsWellBound t variables it

    -- ---- the statements that name no variable

    database_names : (allowed t it ≡ Ok tt → t ≡ tran.None) → (keep : Option Keep) (given : DatabaseOption) → Kept Names (alter_database tables keep given)
    unfolding alter_database
    database_names close None (option.TrackingOn options) = after_kept Names (settings defaults options) _ (λ keep. ok_kept Names (AlterDatabase (Some keep)) close)
    database_names close (Some old) (option.TrackingOn options) = err_kept Names _
    database_names close None option.TrackingOff = err_kept Names _
    database_names close (Some old) option.TrackingOff = after_kept Names (demand (tracked_count tables == 0) (TablesTracked (tracked_count tables))) _ (λ _. ok_kept Names (AlterDatabase None) close)
    database_names close None (option.Tracking options) = err_kept Names _
    database_names close (Some old) (option.Tracking options) = after_kept Names (settings old options) _ (λ keep. ok_kept Names (AlterDatabase (Some keep)) close)
    database_names close keep option.AllowSnapshotIsolation = ok_kept Names AcceptOption (λ may. tt)
    database_names close keep option.ReadCommittedSnapshot = ok_kept Names AcceptOption (λ may. tt)

  names_of : (keep : Option Keep) (it : Stmt) → Kept (IsWellBound t variables it) (binding tables keep variables it)
  unfolding binding create enable disable truncate set_variable declare
  names_of keep (stmt.AlterDatabase name option) = database_names (stmt.AlterDatabase name option) (closed t) keep option
  names_of keep (stmt.CreateTable name columns key) =
      let Names : Bound → Type 0 = IsWellBound t variables (stmt.CreateTable name columns key) in
      after_kept Names (demand (nat_le (length columns) 64) (TooMany 64)) _
      (λ _. after_kept Names (demand (nat_lt (length tables) 256) (TooMany 256)) _
      (λ _. after_kept Names (demand (not (is_some (table_named tables (table_name name)))) (Exists (table_name name))) _
      (λ _. after_kept Names (schema_of (length tables + 1) (table_name name) columns key) _ (λ schema. ok_kept Names (CreateTable schema) (closed t)))))
  names_of keep (stmt.EnableTracking name masks) =
      let Names : Bound → Type 0 = IsWellBound t variables (stmt.EnableTracking name masks) in
      after_kept Names (existing_table tables name) _
      (λ table. after_kept Names (demand (not (is_some table.tracked)) (AlreadyTracked (table_name name))) _
      (λ _. after_kept Names (demand (is_some keep) TrackingOff) _ (λ _. ok_kept Names (EnableTracking table.schema.id masks) (closed t))))
  names_of keep (stmt.DisableTracking name) =
      after_kept (IsWellBound t variables (stmt.DisableTracking name)) (tracked_table tables name) _ (λ table. ok_kept (IsWellBound t variables (stmt.DisableTracking name)) (DisableTracking table.schema.id) (closed t))
  names_of keep (stmt.TruncateTable name) =
      after_kept (IsWellBound t variables (stmt.TruncateTable name)) (existing_table tables name) _ (λ table. ok_kept (IsWellBound t variables (stmt.TruncateTable name)) (TruncateTable table.schema.id) (closed t))
  names_of keep (stmt.Write context write) =
      after_kept (IsWellBound t variables (stmt.Write context write)) (write_of tables variables context write) _ (λ bound. ok_kept (IsWellBound t variables (stmt.Write context write)) (Write bound) (λ may. tt))
  names_of keep (stmt.Select query) = after_kept (IsWellBound t variables (stmt.Select query)) (select tables variables query) _ (λ bound. ok_kept (IsWellBound t variables (stmt.Select query)) (Select bound) (λ may. tt))
  names_of keep stmt.Begin = ok_kept (IsWellBound t variables stmt.Begin) Begin (closed t)
  names_of keep stmt.Commit = ok_kept (IsWellBound t variables stmt.Commit) Commit (λ may. tt)
  names_of keep stmt.Rollback = ok_kept (IsWellBound t variables stmt.Rollback) Rollback (λ may. tt)
  names_of keep (stmt.SetIsolation level) = ok_kept (IsWellBound t variables (stmt.SetIsolation level)) (SetIsolation level) (λ may. tt)
  names_of keep stmt.SetLockTimeout = ok_kept (IsWellBound t variables stmt.SetLockTimeout) SetLockTimeout (λ may. tt)
  names_of keep (stmt.SetVariable name e) =
      let Names : Bound → Type 0 = IsWellBound t variables (stmt.SetVariable name e) in
      then_kept (λ at. IsThere name) Names (declared_variable variables name) _ (declared_there name)
      (λ at here. after_kept Names (value_of tables variables (kind_of_type at.1) e) _ (λ value. ok_kept Names (SetVariable at.0 value) (λ may. here)))
  names_of keep (stmt.Declare name written given) =
      let Names : Bound → Type 0 = IsWellBound t variables (stmt.Declare name written given) in
      demand_kept Names (not (is_declared variables name)) (VariableExists name) _
      (λ free. after_kept Names (optional (value_of tables variables (kind_of_name written)) given) _
      (λ value. after_kept Names (column_type written) _ (λ type. ok_kept Names (Declare name type value) (λ may. not_true (is_declared variables name) free))))
    where
      not_true : (b : Bool) → not b ≡ true → b ≡ false
      not_true true e = cc
      not_true false e = refl

pub suits_if : (t : Tran) (seen : Seen) (it : Stmt) (result : Result Bound Refusal) → allowed t it ≡ Ok tt → Gives (bound_of seen it) result → IfOk result (Suits t seen.variables it)
suits_if t seen it (Err refusal) may gives = tt
suits_if t seen it (Ok bound) may gives = ((names_of t (catalogue seen.db) seen.variables seen.db.keep it).holds bound gives) may
