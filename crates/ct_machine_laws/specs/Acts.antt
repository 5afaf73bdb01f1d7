-- The laws that data definition and the switches of tracking come to acts that apply to the database in whose catalogue they are
-- bound.
use Rattle.std.specs.Prelude.{◌≡◌, ℕ, Bool, true, false, List, map, Option, Ok}
use Rattle.ct_types.specs.declared.bound.Bound.TheVariants.{AlterDatabase, CreateTable, EnableTracking, DisableTracking, TruncateTable}
use Rattle.ct_types.specs.declared.catalogue.Variable.{Variable}
use Rattle.ct_types.specs.declared.entry.Act.TheVariants.{Define, Truncate, Enable, Disable, Database}
use Rattle.ct_types.specs.declared.entry.Keep.{Keep}
use Rattle.ct_types.specs.declared.expr.ObjectName.{ObjectName}
use Rattle.ct_types.specs.declared.schema.Schema.{Schema}
use Rattle.ct_types.specs.declared.stmt.ColumnDef.{ColumnDef}
use Rattle.ct_types.specs.declared.stmt.DatabaseOption.{DatabaseOption}
use Rattle.ct_model.specs.declared.db.Db.{Db}
use Rattle.ct_model.specs.Applies.{ActApplies}
use Rattle.ct_model.specs.Tables.{catalogued, table_of}
use Rattle.ct_model.specs.Valid.{AreNumbered, IsKeepValid}
use Rattle.ct_bind_definition.specs.Definitions.{create, enable, disable, alter_database}
use Rattle.ct_bind.specs.Binding.{truncate}
use Rattle.ct_machine.specs.Step.{is_tracked}
use Rattle.ct_machine_laws.specs.Schemas.{AreNames}

-- CREATE TABLE
abbrev pub CreatesApply : Type 0
CreatesApply =
    (db : Db) (version : ℕ) (name : ObjectName) (columns : List ColumnDef) (key : Option (List (List ℕ))) (schema : Schema)
    → AreNames name columns → create (map catalogued db.tables) name columns key ≡ Ok (CreateTable schema) → ActApplies db version false (Define schema)

-- ENABLE
abbrev pub EnablesApply : Type 0
EnablesApply =
    (db : Db) (version : ℕ) (name : ObjectName) (asked masks : Bool) (id : ℕ)
    → AreNumbered 1 db.tables → enable (map catalogued db.tables) db.keep name asked ≡ Ok (EnableTracking id masks) → ActApplies db version true (Enable id masks)

-- DISABLE
abbrev pub DisablesApply : Type 0
DisablesApply =
    (db : Db) (version : ℕ) (name : ObjectName) (id : ℕ)
    → AreNumbered 1 db.tables → disable (map catalogued db.tables) name ≡ Ok (DisableTracking id) → ActApplies db version false (Disable id)

-- TRUNCATE, which draws a version exactly where its table is tracked
abbrev pub TruncatesApply : Type 0
TruncatesApply =
    (db : Db) (version : ℕ) (variables : List Variable) (name : ObjectName) (id : ℕ)
    → AreNumbered 1 db.tables → truncate (map catalogued db.tables) variables name ≡ Ok (TruncateTable id)
    → ActApplies db version (is_tracked (table_of db.tables id)) (Truncate id)

-- ALTER DATABASE
abbrev pub SettingsApply : Type 0
SettingsApply =
    (db : Db) (version : ℕ) (option : DatabaseOption) (keep : Option Keep)
    → IsKeepValid db.keep → alter_database (map catalogued db.tables) db.keep option ≡ Ok (AlterDatabase keep) → ActApplies db version false (Database keep)
