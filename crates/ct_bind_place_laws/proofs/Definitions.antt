-- Definitions, and statements that switch tracking, refuse none of NoColumn, Ambiguous and TypeClash.
use Rattle.std.proofs.Common.{ℕ, ◌+◌, Bool, not, ◌&&◌, nat_le, nat_lt, List, [], ◌∷◌, length, Option, Some, None, is_some}
use Rattle.std.specs.Prelude.{◌==◌}
use Rattle.std.specs.List.{list_all}
use Rattle.ct_types.specs.declared.catalogue.Catalogued.{Catalogued}
use Rattle.ct_types.specs.declared.catalogue.Variable.{Variable}
use Rattle.ct_types.specs.declared.entry.Keep.{Keep}
use Rattle.ct_types.specs.declared.expr.ObjectName.{ObjectName}
use Rattle.ct_types.specs.declared.refusal.Refusal.{Refusal}
use Rattle.ct_types.specs.declared.refusal.Refusal.TheVariants.{Exists, AlreadyTracked, TrackingOff, TablesTracked, BadTable, BadRetention, TooMany}
use Rattle.ct_types.specs.declared.stmt.ColumnDef.{ColumnDef}
use Rattle.ct_types.specs.declared.stmt.DatabaseOption.{DatabaseOption}
use Rattle.ct_types.specs.declared.stmt.DatabaseOption.TheVariants as option
use Rattle.ct_types.specs.declared.stmt.Retention.{Retention}
use Rattle.ct_types.specs.declared.stmt.TrackingOptions.{TrackingOptions}
use Rattle.ct_types.specs.declared.stmt.TypeName.{TypeName}
use Rattle.ct_types.specs.declared.stmt.TypeName.TheVariants as name
use Rattle.ct_types.specs.Answers.{each}
use Rattle.ct_types.proofs.AnswersCaused.{Caused, ok_caused, err_caused, then_caused, met_caused, demand_caused, or_caused, each_caused}
use Rattle.ct_types.proofs.Lists.{all_everywhere}
use Rattle.ct_bind_names.specs.Catalogue.{table_named, existing_table, tracked_table}
use Rattle.ct_bind_names.specs.Names.{table_name}
use Rattle.ct_bind_names.specs.Numbers.{within, column_type, retention_of}
use Rattle.ct_bind_definition.specs.Definitions.{keys_written, is_there, is_repeated, has_clear_nulls, key_names, are_different, is_free_name, defined_column, id_from, key_id, is_in_sys, first_rules, schema_of, create, enable, disable, defaults, retention_or, settings, tracked_count, switch_on, switch_off, change, alter_database}
use Rattle.ct_bind.specs.Binding.{truncate}
use Rattle.ct_bind_place_laws.proofs.Sources.{Said, existing_by}
use Rattle.ct_bind_place_laws.proofs.Versions.{tracked_by}

module _ {Cause : Refusal → Type 0} where
  pub type_by : (kind : TypeName) → Caused (Said Cause) (column_type kind)
  unfolding column_type
  type_by name.Int = ok_caused _
  type_by name.BigInt = ok_caused _
  type_by (name.NVarChar digits) = then_caused _ _ (or_caused (within 1 4000 digits) (BadTable 4) (λ none is. absurd is)) (λ n. ok_caused _)
  type_by (name.VarBinary digits) = then_caused _ _ (or_caused (within 1 8000 digits) (BadTable 4) (λ none is. absurd is)) (λ n. ok_caused _)

  -- ---- CREATE TABLE

  rules_by : (columns : List ColumnDef) (key : Option (List (List ℕ))) (names : List (List ℕ)) → Caused (Said Cause) (first_rules columns key names)
  unfolding first_rules
  rules_by columns key names =
      met_caused (is_there (keys_written columns key)) (BadTable 1) _ (λ e is. absurd is)
      (λ _. met_caused (not (is_repeated (keys_written columns key)) && list_all (has_clear_nulls key) columns) (BadTable 2) _ (λ e is. absurd is)
      (λ _. demand_caused (are_different columns && list_all is_free_name names) (BadTable 3) (λ e is. absurd is)))

  column_by : (key : Option (List (List ℕ))) (column : ColumnDef) → Caused (Said Cause) (defined_column key column)
  unfolding defined_column
  column_by key column = then_caused (column_type column.kind) _ (type_by column.kind) (λ kind. ok_caused _)

  key_by : (columns : List ColumnDef) (names : List (List ℕ)) → Caused (Said Cause) (key_id columns names)
  unfolding key_id
  key_by columns [] = err_caused (BadTable 5) (λ is. absurd is)
  key_by columns (name ∷ []) = or_caused (id_from name 1 columns) (BadTable 5) (λ none is. absurd is)
  key_by columns (name ∷ other ∷ more) = err_caused (BadTable 5) (λ is. absurd is)

  schema_by : (id : ℕ) (name : List ℕ) (columns : List ColumnDef) (key : Option (List (List ℕ))) → Caused (Said Cause) (schema_of id name columns key)
  unfolding schema_of
  schema_by id name columns key =
      then_caused (first_rules columns key (key_names columns key)) _ (rules_by columns key (key_names columns key))
      (λ kept. then_caused (each (defined_column key) columns) _ (each_caused (defined_column key) columns (all_everywhere (λ column. Caused (Said Cause) (defined_column key column)) (column_by key) columns))
      (λ made. then_caused (key_id columns (key_names columns key)) _ (key_by columns (key_names columns key)) (λ own. met_caused (not (is_in_sys name)) (BadTable 6) _ (λ e is. absurd is) (λ _. ok_caused _))))

  pub create_by : (tables : List Catalogued) (name : ObjectName) (columns : List ColumnDef) (key : Option (List (List ℕ))) → Caused (Said Cause) (create tables name columns key)
  unfolding create
  create_by tables name columns key =
      met_caused (nat_le (length columns) 64) (TooMany 64) _ (λ e is. absurd is)
      (λ _. met_caused (nat_lt (length tables) 256) (TooMany 256) _ (λ e is. absurd is)
      (λ _. met_caused (not (is_some (table_named tables (table_name name)))) (Exists (table_name name)) _ (λ e is. absurd is)
      (λ _. then_caused (schema_of (length tables + 1) (table_name name) columns key) _ (schema_by (length tables + 1) (table_name name) columns key) (λ schema. ok_caused _))))

  -- ---- tracking

  pub enable_by : (tables : List Catalogued) (keep : Option Keep) (name : ObjectName) (masks : Bool) → Caused (Said Cause) (enable tables keep name masks)
  unfolding enable
  enable_by tables keep name masks =
      then_caused (existing_table tables name) _ (existing_by tables name)
      (λ table. met_caused (not (is_some table.tracked)) (AlreadyTracked (table_name name)) _ (λ e is. absurd is) (λ _. met_caused (is_some keep) TrackingOff _ (λ e is. absurd is) (λ _. ok_caused _)))

  pub disable_by : (tables : List Catalogued) (name : ObjectName) → Caused (Said Cause) (disable tables name)
  unfolding disable
  disable_by tables name = then_caused (tracked_table tables name) _ (tracked_by tables name (λ is. absurd is) (λ is. absurd is)) (λ table. ok_caused _)

  pub truncate_by : (tables : List Catalogued) (variables : List Variable) (name : ObjectName) → Caused (Said Cause) (truncate tables variables name)
  unfolding truncate
  truncate_by tables variables name = then_caused (existing_table tables name) _ (existing_by tables name) (λ table. ok_caused _)

  -- ---- ALTER DATABASE

  retention_by : (old : ℕ) (written : Option Retention) → Caused (Said Cause) (retention_or old written)
  unfolding retention_of
  retention_by old None = ok_caused _
  retention_by old (Some retention) = then_caused _ _ (or_caused (within 1 2147483647 retention.amount) BadRetention (λ none is. absurd is)) (λ n. ok_caused _)

  settings_by : (old : Keep) (options : TrackingOptions) → Caused (Said Cause) (settings old options)
  unfolding settings
  settings_by old options = then_caused (retention_or old.retention options.retention) _ (retention_by old.retention options.retention) (λ retention. ok_caused _)

  on_by : (keep : Option Keep) (options : TrackingOptions) → Caused (Said Cause) (switch_on keep options)
  on_by (Some keep) options = err_caused _ (λ is. absurd is)
  on_by None options = then_caused (settings defaults options) _ (settings_by defaults options) (λ keep. ok_caused _)

  off_by : (tables : List Catalogued) (keep : Option Keep) → Caused (Said Cause) (switch_off tables keep)
  off_by tables None = err_caused TrackingOff (λ is. absurd is)
  off_by tables (Some keep) = met_caused (tracked_count tables == 0) (TablesTracked (tracked_count tables)) _ (λ e is. absurd is) (λ _. ok_caused _)

  change_by : (keep : Option Keep) (options : TrackingOptions) → Caused (Said Cause) (change keep options)
  change_by None options = err_caused TrackingOff (λ is. absurd is)
  change_by (Some keep) options = then_caused (settings keep options) _ (settings_by keep options) (λ keep. ok_caused _)

  pub alter_by : (tables : List Catalogued) (keep : Option Keep) (it : DatabaseOption) → Caused (Said Cause) (alter_database tables keep it)
  unfolding alter_database
  alter_by tables keep (option.TrackingOn options) = on_by keep options
  alter_by tables keep option.TrackingOff = off_by tables keep
  alter_by tables keep (option.Tracking options) = change_by keep options
  alter_by tables keep option.AllowSnapshotIsolation = ok_caused _
  alter_by tables keep option.ReadCommittedSnapshot = ok_caused _
