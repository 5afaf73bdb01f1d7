-- What binding promises to whatever stores what statements write.
use Rattle.std.proofs.Common.{◌≡◌, ◌≢◌, ◌≤◌, ℕ, zero, suc, ◌+◌, ◌==◌, not, Bool, true, false, ◌&&◌, nat_le, nat_lt, nat_eq, List, [], ◌∷◌, map, find, length, Option, Some, None, IfSome, Ok, is_some, if◌then◌else◌, refl, sym, ap, subst, ◌∙◌, arith}
use Rattle.std.specs.List.{AllByRecursion, IsDistinct, list_all}
use Rattle.ct_types.specs.declared.bound.Bound.{Bound}
use Rattle.ct_types.specs.declared.bound.Bound.TheVariants.{AcceptOption, AlterDatabase, CreateTable, EnableTracking, DisableTracking, TruncateTable, Write, Select, Begin, Commit, Rollback, SetIsolation, SetLockTimeout, SetVariable, Declare}
use Rattle.ct_types.specs.declared.bound.BoundExpr.{BoundExpr}
use Rattle.ct_types.specs.declared.bound.BoundSet.{BoundSet}
use Rattle.ct_types.specs.declared.bound.BoundWrite.{BoundWrite}
use Rattle.ct_types.specs.declared.bound.RowChange.{RowChange}
use Rattle.ct_types.specs.declared.bound.RowChange.TheVariants.{Insert, Update, Delete}
use Rattle.ct_types.specs.declared.catalogue.Catalogued.{Catalogued}
use Rattle.ct_types.specs.declared.catalogue.Variable.{Variable}
use Rattle.ct_types.specs.declared.entry.Keep.{Keep}
use Rattle.ct_types.specs.declared.expr.Expr.{Expr}
use Rattle.ct_types.specs.declared.expr.ObjectName.{ObjectName}
use Rattle.ct_types.specs.declared.refusal.Refusal.TheVariants.{BadTable, TooMany, Exists, AlreadyTracked, TrackingOff, TablesTracked, VariableExists, NoObject}
use Rattle.ct_types.specs.declared.schema.Column.{Column}
use Rattle.ct_types.specs.declared.schema.Schema.{Schema}
use Rattle.ct_types.specs.declared.stmt.ColumnDef.{ColumnDef}
use Rattle.ct_types.specs.declared.stmt.DatabaseOption.{DatabaseOption}
use Rattle.ct_types.specs.declared.stmt.DatabaseOption.TheVariants as option
use Rattle.ct_types.specs.declared.stmt.SetColumn.{SetColumn}
use Rattle.ct_types.specs.declared.stmt.Stmt.{Stmt}
use Rattle.ct_types.specs.declared.stmt.Stmt.TheVariants as stmt
use Rattle.ct_types.specs.declared.stmt.TableSource.{TableSource}
use Rattle.ct_types.specs.declared.stmt.TypeName.{TypeName}
use Rattle.ct_types.specs.declared.stmt.WriteStmt.{WriteStmt}
use Rattle.ct_types.specs.declared.stmt.WriteStmt.TheVariants as write
use Rattle.ct_types.specs.Answers.{Answer, ◌>>=◌, demand, each, each_after, or_refuse, optional}
use Rattle.ct_types.proofs.AnswersKept.{Kept, ok_kept, err_kept, then_kept, after_kept, found_kept, each_after_kept}
use Rattle.ct_types.proofs.AnswersTaken.{there}
use Rattle.ct_bind_kinds.specs.declared.kind.Kind.{Kind}
use Rattle.ct_bind_kinds.specs.Kinds.{kind_of_type}
use Rattle.ct_bind_names.specs.Names.{same, table_name, last_part}
use Rattle.ct_bind_names.specs.Numbers.{column_type}
use Rattle.ct_bind_names.specs.Catalogue.{table_named, existing_table, tracked_table, declared_variable, is_declared}
use Rattle.ct_bind_expr.specs.declared.place.Place.{Place}
use Rattle.ct_bind_expr.specs.Places.{of_kind}
use Rattle.ct_bind_expr.specs.Walk.{walk}
use Rattle.ct_bind_definition.specs.Definitions.{keys_written, key_names, is_there, is_repeated, has_clear_nulls, are_different, is_free_name, defined_column, id_from, key_id, is_in_sys, first_rules, schema_of, create, enable, disable, defaults, settings, tracked_count, alter_database}
use Rattle.ct_bind.specs.Binding.{kind_of_name, truncate, value_of, set_variable, declare, binding}
use Rattle.ct_bind.specs.Queries.{select}
use Rattle.ct_bind.specs.Sources.{condition}
use Rattle.ct_bind.specs.Writes.{set_target, insert_targets, updated_name, row_named, context_of, tuple_of, insert_change, set_of, update_change, delete_change, write_to, insert, update, delete, write_of}
use Rattle.ct_bind_kind_laws.specs.Statements.{catalogued_of}
use Rattle.ct_bind_kind_laws.specs.Storing.{SparesKey, HasOwnKey, StoresWell, BoundStoreWell}
use Rattle.ct_bind_kind_laws.proofs.Targets.{HasKind, MaySet, set_target_kept}
use Rattle.ct_bind_kind_laws.proofs.Versions.{stands}

-- ---- the next table

-- an id that is found among columns that are numbered from one on is one of theirs
id_within : (name : List ℕ) (id : ℕ) (columns : List ColumnDef) (own : ℕ) → id_from name id columns ≡ Some own → (id ≤ own) × (own + 1 ≤ id + length columns)
unfolding id_from
id_within name id [] own e = absurd cc
id_within name id (column ∷ more) own e =
    let step : (test : Bool) → (if test then Some id else id_from name (id + 1) more) ≡ Some own → (id ≤ own) × (own + 1 ≤ id + length (column ∷ more)) =
    elim [
      | true ↦ (λ k. let same_id : id ≡ own = cc in (omega arith, omega arith))
      | false ↦ (λ k. let rest = id_within name (id + 1) more own k in (omega (arith, rest.0), omega (arith, rest.1)))
    ] in
    step (same column.name name) e

-- as many columns are made as there are definitions
each_length : {A B : Type 0} (step : A → Answer B) (all : List A) → Kept (λ made. length made ≡ length all) (each step all)
each_length step [] = ok_kept (λ made. length made ≡ 0) [] refl
each_length step (a ∷ all) =
    after_kept (λ made. length made ≡ length (a ∷ all)) (step a) _
    (λ b. then_kept (λ made. length made ≡ length all) (λ made. length made ≡ length (a ∷ all)) (each step all) _ (each_length step all)
    (λ made is. ok_kept (λ made. length made ≡ length (a ∷ all)) (b ∷ made) (omega (arith, is))))

abbrev IsOneOf : List ColumnDef → ℕ → Type 0
IsOneOf columns id = (1 ≤ id) × (id ≤ length columns)

key_within : (columns : List ColumnDef) (names : List (List ℕ)) → Kept (IsOneOf columns) (key_id columns names)
unfolding key_id
key_within columns [] = err_kept (IsOneOf columns) (BadTable 5)
key_within columns (name ∷ []) =
    found_kept (IsOneOf columns) (id_from name 1 columns) (BadTable 5) (λ own e. let within = id_within name 1 columns own e in (within.0, omega (arith, within.1)))
key_within columns (name ∷ other ∷ more) = err_kept (IsOneOf columns) (BadTable 5)

abbrev IsNext : ℕ → Schema → Type 0
IsNext id schema = (schema.id ≡ id) × HasOwnKey schema

schema_next : (id : ℕ) (name : List ℕ) (columns : List ColumnDef) (key : Option (List (List ℕ))) → Kept (IsNext id) (schema_of id name columns key)
unfolding schema_of
schema_next id name columns key =
    after_kept (IsNext id) (first_rules columns key (key_names columns key)) _
    (λ _. then_kept (λ made. length made ≡ length columns) (IsNext id) (each (defined_column key) columns) _ (each_length (defined_column key) columns)
    (λ made as_many. then_kept (IsOneOf columns) (IsNext id) (key_id columns (key_names columns key)) _ (key_within columns (key_names columns key))
    (λ own within. after_kept (IsNext id) (demand (not (is_in_sys name)) (BadTable 6)) _
    (λ _. ok_kept (IsNext id) (record { id = id; name = name; columns = made; key = own ∷ [] }) (refl, ((within.0, subst (λ n. own ≤ n) (sym as_many) within.1), tt))))))

-- ---- keys that are spared

abbrev Spares : Schema → BoundSet → Type 0
Spares table set = (1 ≤ set.column) × AllByRecursion (λ key. key ≢ set.column) table.key

-- a column that has a kind is one of the table, so its id is not 0
from_one : (table : Schema) (id : ℕ) (kind : Kind) → HasKind table id kind → 1 ≤ id
from_one table zero kind has = absurd cc
from_one table (suc id) kind has = omega arith

module _ (tables : List Catalogued) (variables : List Variable) where
  set_spares : (table : Schema) (place : Place) (before : List SetColumn) (it : SetColumn) → Kept (Spares table) (set_of tables variables table place before it)
  unfolding set_of
  set_spares table place before it =
      then_kept (λ column. MaySet table column.column column.kind) (Spares table) (set_target table before it.column) _ (set_target_kept table before it.column)
      (λ column may. after_kept (Spares table) (walk tables variables it.value place >>= of_kind column.kind) _
      (λ value. ok_kept (Spares table) (record { column = column.column; value = value }) (from_one table column.column column.kind may.0, may.1)))

  update_spares : (table : Schema) (place : Place) (sets : List SetColumn) (filter : Option Expr) → Kept (SparesKey table) (update_change tables variables table place sets filter)
  unfolding update_change
  update_spares table place sets filter =
      then_kept (AllByRecursion (Spares table)) (SparesKey table) (each_after (set_of tables variables table place) [] sets) _
      (each_after_kept (Spares table) (set_of tables variables table place) (set_spares table place) [] sets)
      (λ made fine. after_kept (SparesKey table) (optional (condition tables variables place) filter) _ (λ found. ok_kept (SparesKey table) (Update made found) fine))

  insert_spares : (table : Schema) (columns : Option (List (List ℕ))) (tuples : List (List Expr)) → Kept (SparesKey table) (insert_change tables variables table columns tuples)
  unfolding insert_change
  insert_spares table columns tuples =
      after_kept (SparesKey table) (insert_targets table columns) _
      (λ targets. after_kept (SparesKey table) (demand (nat_le (length tuples) 1000) (TooMany 1000)) _
      (λ _. after_kept (SparesKey table) (each (tuple_of tables variables targets) tuples) _ (λ rows. ok_kept (SparesKey table) (Insert (map (λ it. it.column) targets) rows) tt)))

  delete_spares : (table : Schema) (place : Place) (filter : Option Expr) → Kept (SparesKey table) (delete_change tables variables place filter)
  unfolding delete_change
  delete_spares table place filter = after_kept (SparesKey table) (optional (condition tables variables place) filter) _ (λ found. ok_kept (SparesKey table) (Delete found) tt)

  abbrev StoresWrite : BoundWrite → Type 0
  StoresWrite write = StoresWell tables (Write write)

  abbrev Stands : Catalogued → Type 0
  Stands table = catalogued_of tables table.schema.id ≡ Some table

  module _ (distinct : IsDistinct nat_eq (map (λ table. table.schema.id) tables)) where
    existing_stands : (name : ObjectName) → Kept Stands (existing_table tables name)
    unfolding existing_table table_named
    existing_stands name = record {
      holds = λ table e.
          let test : Catalogued → Bool = λ table. same table.schema.name (table_name name) in
          stands test tables table distinct (there (find test tables) (NoObject (table_name name)) table e);
    }

    -- the table is there: what is left is the change
    then_write : (table : Catalogued) (context : Option BoundExpr) (change : Answer RowChange) → Stands table → Kept (SparesKey table.schema) change
        → Kept StoresWrite (change >>= (λ change. Ok (write_to tables variables table.schema context change)))
    then_write table context change here spares =
        then_kept (SparesKey table.schema) StoresWrite change _ spares
        (λ change fine. ok_kept StoresWrite (write_to tables variables table.schema context change)
        (subst (λ (found : Option Catalogued). IfSome found (λ table. SparesKey table.schema change)) (sym here) fine))

    insert_stores : (context : Option Expr) (name : ObjectName) (columns : Option (List (List ℕ))) (tuples : List (List Expr)) → Kept StoresWrite (insert tables variables context name columns tuples)
    unfolding insert
    insert_stores context name columns tuples =
        then_kept Stands StoresWrite (existing_table tables name) _ (existing_stands name)
        (λ table here. after_kept StoresWrite (optional (context_of tables variables) context) _
        (λ context. then_write table context (insert_change tables variables table.schema columns tuples) here (insert_spares table.schema columns tuples)))

    update_stores : (context : Option Expr) (name : ObjectName) (sets : List SetColumn) (from : Option TableSource) (filter : Option Expr) → Kept StoresWrite (update tables variables context name sets from filter)
    unfolding update
    update_stores context name sets from filter =
        then_kept Stands StoresWrite (existing_table tables name) _ (existing_stands name)
        (λ table here. after_kept StoresWrite (updated_name name from) _
        (λ row. after_kept StoresWrite (optional (context_of tables variables) context) _
        (λ context. then_write table context (update_change tables variables table.schema (row_named row table.schema) sets filter) here
        (update_spares table.schema (row_named row table.schema) sets filter))))

    delete_stores : (context : Option Expr) (name : ObjectName) (filter : Option Expr) → Kept StoresWrite (delete tables variables context name filter)
    unfolding delete
    delete_stores context name filter =
        then_kept Stands StoresWrite (existing_table tables name) _ (existing_stands name)
        (λ table here. after_kept StoresWrite (optional (context_of tables variables) context) _
        (λ context. then_write table context (delete_change tables variables (row_named (last_part name) table.schema) filter) here
        (delete_spares table.schema (row_named (last_part name) table.schema) filter)))

    write_stores : (context : Option Expr) (write : WriteStmt) → Kept StoresWrite (write_of tables variables context write)
    unfolding write_of
    write_stores context (write.Insert table columns tuples) = insert_stores context table columns tuples
    write_stores context (write.Update table sets from filter) = update_stores context table sets from filter
    write_stores context (write.Delete table filter) = delete_stores context table filter

  -- ---- the other statements, which store nothing that matters here

  database_stores : (keep : Option Keep) (given : DatabaseOption) → Kept (StoresWell tables) (alter_database tables keep given)
  unfolding alter_database
  database_stores None (option.TrackingOn options) = after_kept (StoresWell tables) (settings defaults options) _ (λ keep. ok_kept (StoresWell tables) (AlterDatabase (Some keep)) tt)
  database_stores (Some old) (option.TrackingOn options) = err_kept (StoresWell tables) _
  database_stores None option.TrackingOff = err_kept (StoresWell tables) _
  database_stores (Some old) option.TrackingOff =
      after_kept (StoresWell tables) (demand (tracked_count tables == 0) (TablesTracked (tracked_count tables))) _ (λ _. ok_kept (StoresWell tables) (AlterDatabase None) tt)
  database_stores None (option.Tracking options) = err_kept (StoresWell tables) _
  database_stores (Some old) (option.Tracking options) = after_kept (StoresWell tables) (settings old options) _ (λ keep. ok_kept (StoresWell tables) (AlterDatabase (Some keep)) tt)
  database_stores keep option.AllowSnapshotIsolation = ok_kept (StoresWell tables) AcceptOption tt
  database_stores keep option.ReadCommittedSnapshot = ok_kept (StoresWell tables) AcceptOption tt

  create_stores : (name : ObjectName) (columns : List ColumnDef) (key : Option (List (List ℕ))) → Kept (StoresWell tables) (create tables name columns key)
  unfolding create
  create_stores name columns key =
      after_kept (StoresWell tables) (demand (nat_le (length columns) 64) (TooMany 64)) _
      (λ _. after_kept (StoresWell tables) (demand (nat_lt (length tables) 256) (TooMany 256)) _
      (λ _. after_kept (StoresWell tables) (demand (not (is_some (table_named tables (table_name name)))) (Exists (table_name name))) _
      (λ _. then_kept (IsNext (length tables + 1)) (StoresWell tables) (schema_of (length tables + 1) (table_name name) columns key) _
      (schema_next (length tables + 1) (table_name name) columns key) (λ schema is. ok_kept (StoresWell tables) (CreateTable schema) is))))

  enable_stores : (keep : Option Keep) (name : ObjectName) (masks : Bool) → Kept (StoresWell tables) (enable tables keep name masks)
  unfolding enable
  enable_stores keep name masks =
      after_kept (StoresWell tables) (existing_table tables name) _
      (λ table. after_kept (StoresWell tables) (demand (not (is_some table.tracked)) (AlreadyTracked (table_name name))) _
      (λ _. after_kept (StoresWell tables) (demand (is_some keep) TrackingOff) _ (λ _. ok_kept (StoresWell tables) (EnableTracking table.schema.id masks) tt)))

  disable_stores : (name : ObjectName) → Kept (StoresWell tables) (disable tables name)
  unfolding disable
  disable_stores name = after_kept (StoresWell tables) (tracked_table tables name) _ (λ table. ok_kept (StoresWell tables) (DisableTracking table.schema.id) tt)

  truncate_stores : (name : ObjectName) → Kept (StoresWell tables) (truncate tables variables name)
  unfolding truncate
  truncate_stores name = after_kept (StoresWell tables) (existing_table tables name) _ (λ table. ok_kept (StoresWell tables) (TruncateTable table.schema.id) tt)

  set_variable_stores : (name : List ℕ) (e : Expr) → Kept (StoresWell tables) (set_variable tables variables name e)
  unfolding set_variable
  set_variable_stores name e =
      after_kept (StoresWell tables) (declared_variable variables name) _
      (λ at. after_kept (StoresWell tables) (value_of tables variables (kind_of_type at.1) e) _ (λ value. ok_kept (StoresWell tables) (SetVariable at.0 value) tt))

  declare_stores : (name : List ℕ) (written : TypeName) (given : Option Expr) → Kept (StoresWell tables) (declare tables variables name written given)
  unfolding declare
  declare_stores name written given =
      after_kept (StoresWell tables) (demand (not (is_declared variables name)) (VariableExists name)) _
      (λ _. after_kept (StoresWell tables) (optional (value_of tables variables (kind_of_name written)) given) _
      (λ value. after_kept (StoresWell tables) (column_type written) _ (λ type. ok_kept (StoresWell tables) (Declare name type value) tt)))

  bound_stores : IsDistinct nat_eq (map (λ table. table.schema.id) tables) → (keep : Option Keep) (statement : Stmt) → Kept (StoresWell tables) (binding tables keep variables statement)
  unfolding binding
  bound_stores distinct keep (stmt.AlterDatabase name option) = database_stores keep option
  bound_stores distinct keep (stmt.CreateTable table columns key) = create_stores table columns key
  bound_stores distinct keep (stmt.EnableTracking table masks) = enable_stores keep table masks
  bound_stores distinct keep (stmt.DisableTracking table) = disable_stores table
  bound_stores distinct keep (stmt.TruncateTable table) = truncate_stores table
  bound_stores distinct keep (stmt.Write context write) =
      then_kept StoresWrite (StoresWell tables) (write_of tables variables context write) _ (write_stores distinct context write) (λ bound fine. ok_kept (StoresWell tables) (Write bound) fine)
  bound_stores distinct keep (stmt.Select query) = after_kept (StoresWell tables) (select tables variables query) _ (λ bound. ok_kept (StoresWell tables) (Select bound) tt)
  bound_stores distinct keep stmt.Begin = ok_kept (StoresWell tables) Begin tt
  bound_stores distinct keep stmt.Commit = ok_kept (StoresWell tables) Commit tt
  bound_stores distinct keep stmt.Rollback = ok_kept (StoresWell tables) Rollback tt
  bound_stores distinct keep (stmt.SetIsolation level) = ok_kept (StoresWell tables) (SetIsolation level) tt
  bound_stores distinct keep stmt.SetLockTimeout = ok_kept (StoresWell tables) SetLockTimeout tt
  bound_stores distinct keep (stmt.SetVariable name value) = set_variable_stores name value
  bound_stores distinct keep (stmt.Declare name written value) = declare_stores name written value

pub bound_store_well : BoundStoreWell
bound_store_well tables keep variables statement bound distinct came = (bound_stores tables variables distinct keep statement).holds bound came
