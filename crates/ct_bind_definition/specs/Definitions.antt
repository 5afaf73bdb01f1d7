-- CREATE TABLE, and what switches tracking. The forms are T-SQL's; the limits, the numbers of the rules and their order are
-- this project's own.
use Rattle.std.specs.Prelude.{ℕ, ◌+◌, Bool, true, false, not, ◌&&◌, ◌||◌, nat_le, nat_lt, ◌==◌, codes, List, [], ◌∷◌, ◌++◌, filter, length, map, take, Option, Some, None, is_some, if◌then◌else◌, Ok, Err}
use Rattle.std.specs.List.{list_any, list_all}
use Rattle.ct_types.specs.declared.bound.Bound.{Bound}
use Rattle.ct_types.specs.declared.bound.Bound.TheVariants.{AcceptOption, AlterDatabase, CreateTable, EnableTracking, DisableTracking}
use Rattle.ct_types.specs.declared.catalogue.Catalogued.{Catalogued}
use Rattle.ct_types.specs.declared.entry.Keep.{Keep}
use Rattle.ct_types.specs.declared.expr.ObjectName.{ObjectName}
use Rattle.ct_types.specs.declared.schema.Column.{Column}
use Rattle.ct_types.specs.declared.schema.Schema.{Schema}
use Rattle.ct_types.specs.declared.stmt.ColumnDef.{ColumnDef}
use Rattle.ct_types.specs.declared.stmt.ColumnRule.{ColumnRule}
use Rattle.ct_types.specs.declared.stmt.ColumnRule.TheVariants.{Null, NotNull, PrimaryKey}
use Rattle.ct_types.specs.declared.stmt.DatabaseOption.{DatabaseOption}
use Rattle.ct_types.specs.declared.stmt.DatabaseOption.TheVariants.{TrackingOn, TrackingOff as tracking_off, Tracking, AllowSnapshotIsolation, ReadCommittedSnapshot}
use Rattle.ct_types.specs.declared.stmt.Retention.{Retention}
use Rattle.ct_types.specs.declared.stmt.TrackingOptions.{TrackingOptions}
use Rattle.ct_types.specs.declared.refusal.Refusal.TheVariants.{Exists, BadTable, TooMany, AlreadyTracked, TrackingOff, TablesTracked}
use Rattle.ct_model.specs.Schemas.{change_columns}
use Rattle.ct_types.specs.Answers.{Answer, ◌>>=◌, ◌>>◌, demand, or_refuse, each}
use Rattle.ct_bind_names.specs.Names.{same, is_among, table_name}
use Rattle.ct_bind_names.specs.Numbers.{column_type, retention_of}
use Rattle.ct_bind_names.specs.Catalogue.{table_named, existing_table, tracked_table}

-- ---- what is written behind a column

abbrev pub is_null_rule : ColumnRule → Bool
is_null_rule Null = true
is_null_rule NotNull = false
is_null_rule PrimaryKey = false

abbrev pub is_not_null_rule : ColumnRule → Bool
is_not_null_rule Null = false
is_not_null_rule NotNull = true
is_not_null_rule PrimaryKey = false

abbrev pub is_key_rule : ColumnRule → Bool
is_key_rule Null = false
is_key_rule NotNull = false
is_key_rule PrimaryKey = true

unfoldable pub says_null : ColumnDef → Bool
says_null column = list_any is_null_rule column.rules

unfoldable pub says_not_null : ColumnDef → Bool
says_not_null column = list_any is_not_null_rule column.rules

unfoldable pub says_key : ColumnDef → Bool
says_key column = list_any is_key_rule column.rules

-- ---- the key that is written

abbrev pub listed_key : Option (List (List ℕ)) → List ColumnRule
listed_key None = []
listed_key (Some names) = PrimaryKey ∷ []

unfoldable pub keys_in : List ColumnDef → List ColumnRule
keys_in [] = []
keys_in (column ∷ more) = filter is_key_rule column.rules ++ keys_in more

-- each primary key that is written
unfoldable pub keys_written : List ColumnDef → Option (List (List ℕ)) → List ColumnRule
keys_written columns key = keys_in columns ++ listed_key key

abbrev pub is_there : List ColumnRule → Bool
is_there [] = false
is_there (key ∷ more) = true

abbrev pub is_repeated : List ColumnRule → Bool
is_repeated [] = false
is_repeated (key ∷ []) = false
is_repeated (key ∷ other ∷ more) = true

abbrev pub names_in : Option (List (List ℕ)) → List (List ℕ)
names_in None = []
names_in (Some names) = names

-- the names of the columns of the key, behind a column or in a list
unfoldable pub key_names : List ColumnDef → Option (List (List ℕ)) → List (List ℕ)
key_names columns key = map (λ column. column.name) (filter says_key columns) ++ names_in key

-- ---- the rules, the least of which that is broken answers

-- rule 1: there is a primary key

-- a column of the key, which says so itself or is in the list
unfoldable pub is_of_key : Option (List (List ℕ)) → ColumnDef → Bool
is_of_key key column = says_key column || is_among column.name (names_in key)

-- rule 2: there are not two, no column is both NULL and NOT NULL, and none of the key is NULL
unfoldable pub has_clear_nulls : Option (List (List ℕ)) → ColumnDef → Bool
has_clear_nulls key column = not (says_null column) || (not (says_not_null column) && not (is_of_key key column))

-- rule 3: columns have different names, and no column of the key one that CHANGETABLE shows beside the key
unfoldable pub is_named_in : List ℕ → List ColumnDef → Bool
is_named_in name columns = list_any (λ column. same name column.name) columns

unfoldable pub are_different : List ColumnDef → Bool
are_different [] = true
are_different (column ∷ more) = not (is_named_in column.name more) && are_different more

unfoldable pub is_free_name : List ℕ → Bool
is_free_name name = not (is_among name change_columns)

-- rule 4 is that of types. A column is nullable unless NOT NULL or the key says otherwise.
unfoldable pub defined_column : Option (List (List ℕ)) → ColumnDef → Answer Column
defined_column key column = do
  kind ← column_type column.kind
  Ok (record { name = column.name; kind = kind; nullable = not (says_not_null column) && not (is_of_key key column) })

-- rule 5: the key is one column of the table
unfoldable pub id_from : List ℕ → ℕ → List ColumnDef → Option ℕ
id_from name id [] = None
id_from name id (column ∷ more) = if same column.name name then Some id else id_from name (id + 1) more

unfoldable pub key_id : List ColumnDef → List (List ℕ) → Answer ℕ
key_id columns [] = Err (BadTable 5)
key_id columns (name ∷ []) = or_refuse (id_from name 1 columns) (BadTable 5)
key_id columns (name ∷ other ∷ more) = Err (BadTable 5)

-- rule 6: the schema is not `sys`
unfoldable pub is_in_sys : List ℕ → Bool
is_in_sys name = nat_lt 4 (length name) && same (take 4 name) (codes "sys.")

-- the first three
unfoldable pub first_rules : List ColumnDef → Option (List (List ℕ)) → List (List ℕ) → Answer (Unit {0})
first_rules columns key names = do
  demand (is_there (keys_written columns key)) (BadTable 1)
  demand (not (is_repeated (keys_written columns key)) && list_all (has_clear_nulls key) columns) (BadTable 2)
  demand (are_different columns && list_all is_free_name names) (BadTable 3)

unfoldable pub schema_of : ℕ → List ℕ → List ColumnDef → Option (List (List ℕ)) → Answer Schema
schema_of id name columns key = do
  first_rules columns key (key_names columns key)
  made ← each (defined_column key) columns
  own ← key_id columns (key_names columns key)
  demand (not (is_in_sys name)) (BadTable 6)
  Ok (record { id = id; name = name; columns = made; key = own ∷ [] })

-- ---- statements

-- the limits come first, that of the columns before that of the tables
unfoldable pub create : List Catalogued → ObjectName → List ColumnDef → Option (List (List ℕ)) → Answer Bound
create tables name columns key = do
  demand (nat_le (length columns) 64) (TooMany 64)
  demand (nat_lt (length tables) 256) (TooMany 256)
  demand (not (is_some (table_named tables (table_name name)))) (Exists (table_name name))
  schema ← schema_of (length tables + 1) (table_name name) columns key
  Ok (CreateTable schema)

unfoldable pub enable : List Catalogued → Option Keep → ObjectName → Bool → Answer Bound
enable tables keep name masks = do
  table ← existing_table tables name
  demand (not (is_some table.tracked)) (AlreadyTracked (table_name name))
  demand (is_some keep) TrackingOff
  Ok (EnableTracking table.schema.id masks)

unfoldable pub disable : List Catalogued → ObjectName → Answer Bound
disable tables name = do
  table ← tracked_table tables name
  Ok (DisableTracking table.schema.id)

-- ---- the settings of the database

-- a retention of two days, and automatic cleanup
abbrev pub defaults : Keep
defaults = record { retention = 172800; auto = true }

abbrev pub retention_or : ℕ → Option Retention → Answer ℕ
retention_or old None = Ok old
retention_or old (Some retention) = retention_of retention

abbrev pub cleanup_or : Bool → Option Bool → Bool
cleanup_or old None = old
cleanup_or old (Some auto) = auto

-- options that are not written stay as they are
unfoldable pub settings : Keep → TrackingOptions → Answer Keep
settings old options = do
  retention ← retention_or old.retention options.retention
  Ok (record { retention = retention; auto = cleanup_or old.auto options.cleanup })

unfoldable pub tracked_count : List Catalogued → ℕ
tracked_count tables = length (filter (λ table. is_some table.tracked) tables)

abbrev pub switch_on : Option Keep → TrackingOptions → Answer Bound
switch_on (Some keep) options = Err (AlreadyTracked (codes "database"))
switch_on None options = do
  keep ← settings defaults options
  Ok (AlterDatabase (Some keep))

abbrev pub switch_off : List Catalogued → Option Keep → Answer Bound
switch_off tables None = Err TrackingOff
switch_off tables (Some keep) = do
  demand (tracked_count tables == 0) (TablesTracked (tracked_count tables))
  Ok (AlterDatabase None)

abbrev pub change : Option Keep → TrackingOptions → Answer Bound
change None options = Err TrackingOff
change (Some keep) options = do
  keep ← settings keep options
  Ok (AlterDatabase (Some keep))

abbrev pub database_by : List Catalogued → Option Keep → DatabaseOption → Answer Bound
database_by tables keep (TrackingOn options) = switch_on keep options
database_by tables keep tracking_off = switch_off tables keep
database_by tables keep (Tracking options) = change keep options
database_by tables keep AllowSnapshotIsolation = Ok AcceptOption
database_by tables keep ReadCommittedSnapshot = Ok AcceptOption

unfoldable pub alter_database : List Catalogued → Option Keep → DatabaseOption → Answer Bound
alter_database = database_by
