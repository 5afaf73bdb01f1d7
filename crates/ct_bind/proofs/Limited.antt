-- What is bound keeps the limits of a table's columns, where all tables do.
use Rattle.std.proofs.Common.{◌≡◌, ◌==◌, ℕ, ◌+◌, ◌<◌, ◌≤◌, nat_le, nat_lt, Bool, true, not, List, [], ◌∷◌, length, map, Option, Some, None, is_some, Ok, Err, IfOk, refl, find, arith, leb-true}
use Rattle.std.specs.List.{AllByRecursion}
use Rattle.std.proofs.lemmas.List.Elements.{All-from_recursion}
use Rattle.ct_types.specs.declared.bound.Bound.{Bound}
use Rattle.ct_types.specs.declared.bound.BoundSet.{BoundSet}
use Rattle.ct_types.specs.declared.catalogue.Catalogued.{Catalogued}
use Rattle.ct_types.specs.declared.catalogue.Variable.{Variable}
use Rattle.ct_types.specs.declared.expr.Expr.{Expr}
use Rattle.ct_types.specs.declared.expr.ObjectName.{ObjectName}
use Rattle.ct_types.specs.declared.schema.Column.{Column}
use Rattle.ct_types.specs.declared.schema.Schema.{Schema}
use Rattle.ct_types.specs.declared.stmt.ColumnDef.{ColumnDef}
use Rattle.ct_types.specs.declared.stmt.SetColumn.{SetColumn}
use Rattle.ct_bind_kinds.specs.Kinds.{kind_of_type}
use Rattle.ct_types.specs.declared.refusal.Refusal.TheVariants.{Ambiguous, KeyUpdate, TooMany, BadTable, Exists, AlreadyTracked, TrackingOff, TablesTracked, VariableExists}
use Rattle.ct_types.specs.declared.bound.BoundWrite.{BoundWrite}
use Rattle.ct_types.specs.declared.stmt.TableSource.{TableSource}
use Rattle.ct_types.specs.Answers.{Answer, Gives, ◌>>=◌, demand, optional, each, each_after}
use Rattle.ct_bind_names.specs.Catalogue.{existing_table, tracked_table, table_named, declared_variable, is_declared}
use Rattle.ct_bind_expr.specs.Places.{of_kind}
use Rattle.ct_bind_expr.specs.Walk.{walk}
use Rattle.ct_bind_definition.specs.Definitions.{create, enable, disable, alter_database, settings, defaults, tracked_count, schema_of, first_rules, key_names, defined_column, key_id, is_in_sys}
use Rattle.ct_bind.specs.Sources.{condition}
use Rattle.ct_types.proofs.Lists.{all_found}
use Rattle.ct_types.proofs.AnswersTaken.{some_or}
use Rattle.ct_bind_names.specs.Names.{same, table_name, last_part}
use Rattle.ct_bind_expr.specs.declared.place.Place.{Place}
use Rattle.ct_bind.specs.declared.writes.Target.{Target}
use Rattle.ct_bind.specs.Limits.{HaveFewColumns, ChangeKeepsLimits, KeepsLimits}
use Rattle.ct_bind.specs.Binding.{binding, truncate, set_variable, declare, value_of, kind_of_name}
use Rattle.ct_bind.specs.Queries.{select}
use Rattle.ct_types.specs.declared.bound.Bound.TheVariants.{CreateTable, EnableTracking, DisableTracking, AlterDatabase, AcceptOption, Write, Select, Begin, Commit, Rollback, SetIsolation, SetLockTimeout}
use Rattle.ct_types.specs.declared.entry.Keep.{Keep}
use Rattle.ct_types.specs.declared.stmt.DatabaseOption.{DatabaseOption}
use Rattle.ct_types.specs.declared.stmt.DatabaseOption.TheVariants.{TrackingOn, TrackingOff as tracking_off, Tracking, AllowSnapshotIsolation, ReadCommittedSnapshot}
use Rattle.ct_types.specs.declared.stmt.Stmt.{Stmt}
use Rattle.ct_types.specs.declared.stmt.Stmt.TheVariants as stmt
use Rattle.ct_types.specs.declared.stmt.WriteStmt.{WriteStmt}
use Rattle.ct_types.specs.declared.stmt.WriteStmt.TheVariants as write
use Rattle.ct_bind_names.specs.Numbers.{column_type}
use Rattle.ct_bind.specs.Writes.{target, target_from, table_target, is_set, is_key, set_target, set_of, update_change, updated_name, row_named, context_of, update, insert, insert_change, insert_targets, tuple_of, delete, delete_change, write_of}
use Rattle.ct_types.proofs.AnswersKept.{Kept, ok_kept, err_kept, then_kept, after_kept, met_kept, found_kept, each_after_kept}

abbrev Narrow : ℕ → Type 0
Narrow id = (0 < id) × (id ≤ 64)

target_narrow : (name : List ℕ) (id : ℕ) (columns : List Column) (it : Target) → 0 < id → id + length columns ≤ 65 → target_from name id columns ≡ Some it → Narrow it.column
unfolding target_from
target_narrow name id [] it low high e = absurd cc
target_narrow name id (column ∷ more) it low high e =
    some_or (λ (it : Target). Narrow it.column) (same column.name name) (target id (kind_of_type column.kind)) it (target_from name (id + 1) more) (low, omega arith) (target_narrow name (id + 1) more it (omega arith) (omega arith)) e

table_narrow : (table : Schema) (name : List ℕ) → length table.columns ≤ 64 → Kept (λ it. Narrow it.column) (table_target table name)
unfolding table_target
table_narrow table name few = found_kept (λ it. Narrow it.column) (target_from name 1 table.columns) _ (λ it e. target_narrow name 1 table.columns it (omega arith) (omega arith) e)

set_target_narrow : (table : Schema) (before : List SetColumn) (name : List ℕ) → length table.columns ≤ 64 → Kept (λ it. Narrow it.column) (set_target table before name)
unfolding set_target
set_target_narrow table before name few =
    then_kept (λ it. Narrow it.column) (λ it. Narrow it.column) (table_target table name) _ (table_narrow table name few)
    (λ it narrow. after_kept (λ it. Narrow it.column) (demand (not (is_set name before)) (Ambiguous name)) _ (λ _. after_kept (λ it. Narrow it.column) (demand (not (is_key table it.column)) (KeyUpdate name)) _ (λ _. ok_kept (λ it. Narrow it.column) it narrow)))

ids_narrow : (sets : List BoundSet) → AllByRecursion (λ set. Narrow set.column) sets → AllByRecursion Narrow (map (λ set. set.column) sets)
ids_narrow [] all = tt
ids_narrow (set ∷ more) all = (all.0, ids_narrow more all.1)

module _ (tables : List Catalogued) (variables : List Variable) where
  set_narrow : (table : Schema) (place : Place) (before : List SetColumn) (it : SetColumn) → length table.columns ≤ 64 → Kept (λ set. Narrow set.column) (set_of tables variables table place before it)
  unfolding set_of
  set_narrow table place before it few =
      then_kept (λ it. Narrow it.column) (λ set. Narrow set.column) (set_target table before it.column) _ (set_target_narrow table before it.column few)
      (λ column narrow. after_kept (λ set. Narrow set.column) (walk tables variables it.value place >>= of_kind column.kind) _ (λ value. ok_kept (λ set. Narrow set.column) _ narrow))

  pub change_narrow : (table : Schema) (place : Place) (sets : List SetColumn) (filter : Option Expr) → length table.columns ≤ 64 → Kept ChangeKeepsLimits (update_change tables variables table place sets filter)
  unfolding update_change
  change_narrow table place sets filter few =
      then_kept (AllByRecursion (λ set. Narrow set.column)) ChangeKeepsLimits (each_after (set_of tables variables table place) [] sets) _
      (each_after_kept (λ set. Narrow set.column) (set_of tables variables table place) (λ before it. set_narrow table place before it few) [] sets)
      (λ sets all. after_kept ChangeKeepsLimits (optional (condition tables variables place) filter) _ (λ filter. ok_kept ChangeKeepsLimits _ (All-from_recursion Narrow _ (ids_narrow sets all))))

  existing_few : (name : ObjectName) → HaveFewColumns tables → Kept (λ table. length table.schema.columns ≤ 64) (existing_table tables name)
  unfolding existing_table table_named
  existing_few name few =
      found_kept (λ table. length table.schema.columns ≤ 64) (find (λ table. same table.schema.name (table_name name)) tables) _
      (λ table e. all_found (λ table. length table.schema.columns ≤ 64) (λ table. same table.schema.name (table_name name)) tables table few e)

  abbrev WriteKeeps : BoundWrite → Type 0
  WriteKeeps write = ChangeKeepsLimits write.change

  pub update_narrow : (context : Option Expr) (name : ObjectName) (sets : List SetColumn) (from : Option TableSource) (filter : Option Expr)
      → HaveFewColumns tables → Kept WriteKeeps (update tables variables context name sets from filter)
  unfolding update
  update_narrow context name sets from filter few =
      then_kept (λ table. length table.schema.columns ≤ 64) WriteKeeps (existing_table tables name) _ (existing_few name few)
      (λ table narrow. after_kept WriteKeeps (updated_name name from) _
      (λ row. after_kept WriteKeeps (optional (context_of tables variables) context) _
      (λ context. then_kept ChangeKeepsLimits WriteKeeps (update_change tables variables table.schema (row_named row table.schema) sets filter) _
      (change_narrow table.schema (row_named row table.schema) sets filter narrow) (λ change kept. ok_kept WriteKeeps _ kept))))

-- a list that is made step by step is as long as what it is made from
each_length : {A B : Type 0} (step : A → Answer B) (all : List A) → Kept (λ made. length made ≡ length all) (each step all)
each_length step [] = ok_kept (λ made. length made ≡ 0) [] refl
each_length step (a ∷ more) =
    after_kept (λ made. length made ≡ length (a ∷ more)) (step a) _
    (λ b. then_kept (λ made. length made ≡ length more) (λ made. length made ≡ length (a ∷ more)) (each step more) _ (each_length step more)
    (λ made same. ok_kept (λ made. length made ≡ length (a ∷ more)) (b ∷ made) (omega arith)))

pub schema_length : (id : ℕ) (name : List ℕ) (columns : List ColumnDef) (key : Option (List (List ℕ))) → Kept (λ schema. length schema.columns ≡ length columns) (schema_of id name columns key)
unfolding schema_of
schema_length id name columns key =
    after_kept (λ schema. length schema.columns ≡ length columns) (first_rules columns key (key_names columns key)) _
    (λ _. then_kept (λ made. length made ≡ length columns) (λ schema. length schema.columns ≡ length columns) (each (defined_column key) columns) _ (each_length (defined_column key) columns)
    (λ made same. after_kept (λ schema. length schema.columns ≡ length columns) (key_id columns (key_names columns key)) _
    (λ own. after_kept (λ schema. length schema.columns ≡ length columns) (demand (not (is_in_sys name)) (BadTable 6)) _
    (λ _. ok_kept (λ schema. length schema.columns ≡ length columns) _ same))))

create_keeps : (tables : List Catalogued) (name : ObjectName) (columns : List ColumnDef) (key : Option (List (List ℕ))) → Kept KeepsLimits (create tables name columns key)
unfolding create
create_keeps tables name columns key =
    then_kept (λ _. nat_le (length columns) 64 ≡ true) KeepsLimits (demand (nat_le (length columns) 64) (TooMany 64)) _ (met_kept (nat_le (length columns) 64) (TooMany 64))
    (λ _ few. after_kept KeepsLimits (demand (nat_lt (length tables) 256) (TooMany 256)) _
    (λ _. after_kept KeepsLimits (demand (not (is_some (table_named tables (table_name name)))) (Exists (table_name name))) _
    (λ _. then_kept (λ schema. length schema.columns ≡ length columns) KeepsLimits (schema_of (length tables + 1) (table_name name) columns key) _
    (schema_length (length tables + 1) (table_name name) columns key)
    (λ schema same. let top : length columns ≤ 64 = leb-true (length columns) 64 few in ok_kept KeepsLimits (CreateTable schema) (omega arith)))))

enable_keeps : (tables : List Catalogued) (keep : Option Keep) (name : ObjectName) (masks : Bool) → Kept KeepsLimits (enable tables keep name masks)
unfolding enable
enable_keeps tables keep name masks =
    after_kept KeepsLimits (existing_table tables name) _
    (λ table. after_kept KeepsLimits (demand (not (is_some table.tracked)) (AlreadyTracked (table_name name))) _
    (λ _. after_kept KeepsLimits (demand (is_some keep) TrackingOff) _ (λ _. ok_kept KeepsLimits (EnableTracking table.schema.id masks) tt)))

disable_keeps : (tables : List Catalogued) (name : ObjectName) → Kept KeepsLimits (disable tables name)
unfolding disable
disable_keeps tables name = after_kept KeepsLimits (tracked_table tables name) _ (λ table. ok_kept KeepsLimits (DisableTracking table.schema.id) tt)

database_keeps : (tables : List Catalogued) (keep : Option Keep) (option : DatabaseOption) → Kept KeepsLimits (alter_database tables keep option)
unfolding alter_database
database_keeps tables None (TrackingOn options) = after_kept KeepsLimits (settings defaults options) _ (λ keep. ok_kept KeepsLimits (AlterDatabase (Some keep)) tt)
database_keeps tables (Some old) (TrackingOn options) = err_kept KeepsLimits _
database_keeps tables None tracking_off = err_kept KeepsLimits _
database_keeps tables (Some old) tracking_off = after_kept KeepsLimits (demand (tracked_count tables == 0) (TablesTracked (tracked_count tables))) _ (λ _. ok_kept KeepsLimits (AlterDatabase None) tt)
database_keeps tables None (Tracking options) = err_kept KeepsLimits _
database_keeps tables (Some old) (Tracking options) = after_kept KeepsLimits (settings old options) _ (λ keep. ok_kept KeepsLimits (AlterDatabase (Some keep)) tt)
database_keeps tables keep AllowSnapshotIsolation = ok_kept KeepsLimits AcceptOption tt
database_keeps tables keep ReadCommittedSnapshot = ok_kept KeepsLimits AcceptOption tt

module _ (tables : List Catalogued) (variables : List Variable) where
  insert_keeps : (context : Option Expr) (name : ObjectName) (columns : Option (List (List ℕ))) (tuples : List (List Expr)) → Kept (λ write. ChangeKeepsLimits write.change) (insert tables variables context name columns tuples)
  unfolding insert insert_change
  insert_keeps context name columns tuples =
      after_kept (λ write. ChangeKeepsLimits write.change) (existing_table tables name) _
      (λ table. after_kept (λ write. ChangeKeepsLimits write.change) (optional (context_of tables variables) context) _
      (λ context. then_kept ChangeKeepsLimits (λ write. ChangeKeepsLimits write.change) (insert_change tables variables table.schema columns tuples) _
      (after_kept ChangeKeepsLimits (insert_targets table.schema columns) _
      (λ columns. after_kept ChangeKeepsLimits (demand (nat_le (length tuples) 1000) (TooMany 1000)) _
      (λ _. after_kept ChangeKeepsLimits (each (tuple_of tables variables columns) tuples) _ (λ rows. ok_kept ChangeKeepsLimits _ tt))))
      (λ change kept. ok_kept (λ write. ChangeKeepsLimits write.change) _ kept)))

  delete_keeps : (context : Option Expr) (name : ObjectName) (filter : Option Expr) → Kept (λ write. ChangeKeepsLimits write.change) (delete tables variables context name filter)
  unfolding delete delete_change
  delete_keeps context name filter =
      after_kept (λ write. ChangeKeepsLimits write.change) (existing_table tables name) _
      (λ table. after_kept (λ write. ChangeKeepsLimits write.change) (optional (context_of tables variables) context) _
      (λ context. then_kept ChangeKeepsLimits (λ write. ChangeKeepsLimits write.change) (delete_change tables variables (row_named (last_part name) table.schema) filter) _
      (after_kept ChangeKeepsLimits (optional (condition tables variables (row_named (last_part name) table.schema)) filter) _ (λ filter. ok_kept ChangeKeepsLimits _ tt))
      (λ change kept. ok_kept (λ write. ChangeKeepsLimits write.change) _ kept)))

  write_keeps : (context : Option Expr) (write : WriteStmt) → HaveFewColumns tables → Kept (λ write. ChangeKeepsLimits write.change) (write_of tables variables context write)
  unfolding write_of
  write_keeps context (write.Insert table columns tuples) few = insert_keeps context table columns tuples
  write_keeps context (write.Update table sets from filter) few = update_narrow tables variables context table sets from filter few
  write_keeps context (write.Delete table filter) few = delete_keeps context table filter

  binding_keeps : (keep : Option Keep) (stmt : Stmt) → HaveFewColumns tables → Kept KeepsLimits (binding tables keep variables stmt)
  unfolding binding truncate set_variable declare
  binding_keeps keep (stmt.AlterDatabase name option) few = database_keeps tables keep option
  binding_keeps keep (stmt.CreateTable table columns key) few = create_keeps tables table columns key
  binding_keeps keep (stmt.EnableTracking table masks) few = enable_keeps tables keep table masks
  binding_keeps keep (stmt.DisableTracking table) few = disable_keeps tables table
  binding_keeps keep (stmt.TruncateTable table) few = after_kept KeepsLimits (existing_table tables table) _ (λ table. ok_kept KeepsLimits _ tt)
  binding_keeps keep (stmt.Write context write) few = then_kept (λ write. ChangeKeepsLimits write.change) KeepsLimits (write_of tables variables context write) _ (write_keeps context write few) (λ bound kept. ok_kept KeepsLimits (Write bound) kept)
  binding_keeps keep (stmt.Select query) few = after_kept KeepsLimits (select tables variables query) _ (λ bound. ok_kept KeepsLimits (Select bound) tt)
  binding_keeps keep stmt.Begin few = ok_kept KeepsLimits Begin tt
  binding_keeps keep stmt.Commit few = ok_kept KeepsLimits Commit tt
  binding_keeps keep stmt.Rollback few = ok_kept KeepsLimits Rollback tt
  binding_keeps keep (stmt.SetIsolation level) few = ok_kept KeepsLimits (SetIsolation level) tt
  binding_keeps keep stmt.SetLockTimeout few = ok_kept KeepsLimits SetLockTimeout tt
  binding_keeps keep (stmt.SetVariable name value) few =
      after_kept KeepsLimits (declared_variable variables name) _ (λ variable. after_kept KeepsLimits (value_of tables variables (kind_of_type variable.1) value) _ (λ value. ok_kept KeepsLimits _ tt))
  binding_keeps keep (stmt.Declare name kind value) few =
      after_kept KeepsLimits (demand (not (is_declared variables name)) (VariableExists name)) _
      (λ _. after_kept KeepsLimits (optional (value_of tables variables (kind_of_name kind)) value) _ (λ value. after_kept KeepsLimits (column_type kind) _ (λ kind. ok_kept KeepsLimits _ tt)))

  -- what a function gives that binds
  pub bound_keeps : (keep : Option Keep) (stmt : Stmt) (result : Answer Bound) → HaveFewColumns tables → Gives (binding tables keep variables stmt) result → IfOk result KeepsLimits
  bound_keeps keep stmt (Ok bound) few e = (binding_keeps keep stmt few).holds bound e
  bound_keeps keep stmt (Err refusal) few e = tt
