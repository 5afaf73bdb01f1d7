-- The look-ups of tables, columns and variables by their names. SQL Server's 208 answers a name of no object; the other
-- refusals are this project's own.
use Rattle.std.specs.Prelude.{ℕ, ◌+◌, Bool, codes, List, [], ◌∷◌, find, Option, Some, None, is_some, if◌then◌else◌, Ok}
use Rattle.std.specs.List.{list_any}
use Rattle.ct_types.specs.declared.catalogue.Catalogued.{Catalogued}
use Rattle.ct_types.specs.declared.catalogue.Variable.{Variable}
use Rattle.ct_types.specs.declared.expr.ObjectName.{ObjectName}
use Rattle.ct_types.specs.declared.schema.ColType.{ColType}
use Rattle.ct_types.specs.declared.refusal.Refusal.TheVariants.{NoObject, NotTracked, NoVariable}
use Rattle.ct_bind_names.specs.declared.catalogue.SystemTable.{SystemTable}
use Rattle.ct_bind_names.specs.declared.catalogue.SystemTable.TheVariants.{Commits, Tracking}
use Rattle.ct_types.specs.Answers.{Answer, ◌>>=◌, ◌>>◌, demand, or_refuse}
use Rattle.ct_bind_names.specs.Names.{same, table_name}

-- the table of that name
unfoldable pub table_named : List Catalogued → List ℕ → Option Catalogued
table_named tables name = find (λ table. same table.schema.name name) tables

-- 208 where there is no such table. A system table is none of them.
unfoldable pub existing_table : List Catalogued → ObjectName → Answer Catalogued
existing_table tables name = or_refuse (table_named tables (table_name name)) (NoObject (table_name name))

-- CHANGETABLE and DISABLE want a tracked table
unfoldable pub tracked_table : List Catalogued → ObjectName → Answer Catalogued
tracked_table tables name = do
  table ← existing_table tables name
  demand (is_some table.tracked) (NotTracked (table_name name))
  Ok table

-- the system tables of change tracking
unfoldable pub system_table : List ℕ → Option SystemTable
system_table name =
    if same name (codes "sys.dm_tran_commit_table") then Some Commits
    else (if same name (codes "sys.change_tracking_tables") then Some Tracking else None)

unfoldable pub is_declared : List Variable → List ℕ → Bool
is_declared variables name = list_any (λ variable. same variable.name name) variables

-- the variable of that name: its place, counted from `at`, and its type
unfoldable pub variable_from : List ℕ → ℕ → List Variable → Option (ℕ × ColType)
variable_from name at [] = None
variable_from name at (variable ∷ more) = if same variable.name name then Some (at, variable.kind) else variable_from name (at + 1) more

unfoldable pub declared_variable : List Variable → List ℕ → Answer (ℕ × ColType)
declared_variable variables name = or_refuse (variable_from name 0 variables) (NoVariable name)
